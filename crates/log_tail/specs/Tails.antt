-- What a pen and a reader of a tail know.
use Rattle.std.specs.Prelude.{◌≡◌, ◌-◌, ◌<◌, ◌≤◌, ℕ, Bool, true, false, List, [], ◌++◌, length, min, take, drop}
use Rattle.log_tail.specs.declared.rule.Knows.{Knows}
use Rattle.log_tail.specs.declared.table.LogTail.{LogTail}
use Rattle.log_tail.specs.declared.tail.Pen.{Pen}
use Rattle.log_tail.specs.declared.tail.Reader.{Reader}
use Rattle.log_tail.specs.declared.tail.Polled.{Polled}
use Rattle.log_tail.specs.declared.tail.Polled.TheVariants.{Words, NotYet, End}

-- how many words may be published in all
abbrev pub capacity_of : LogTail → ℕ
capacity_of t = t.table.shared.key

-- of what is known, the words published and how many they are
abbrev pub IsPen : ℕ → ℕ → Knows → Type 0
IsPen capacity count v = (v.writes ≡ true) × (v.reads ≡ false) × (v.ready ≡ []) × (v.capacity ≡ capacity) × (count ≡ length v.log) × (count ≤ capacity)

abbrev pub IsReader : ℕ → ℕ → Knows → Type 0
IsReader capacity place v = (v.reads ≡ true) × (v.writes ≡ false) × (v.fresh ≡ false) × (v.capacity ≡ capacity) × (place ≡ length v.read)

-- it is the pen of this tail
abbrev pub IsPenOf : LogTail → Pen → Type 0
IsPenOf t p = (p.seat.table_id ≡ t.table.shared.table_id) × (p.seat.me.1 ≡ []) × IsPen (capacity_of t) p.count p.seat.me.0

-- it is a reader of this tail
abbrev pub IsReaderOf : LogTail → Reader → Type 0
IsReaderOf t r = (r.seat.table_id ≡ t.table.shared.table_id) × (r.seat.me.1 ≡ []) × IsReader (capacity_of t) r.place r.seat.me.0

-- the words published, in order
abbrev pub published : Pen → List ℕ
published p = p.seat.me.0.log

abbrev pub is_closed : Pen → Bool
is_closed p = p.seat.me.0.closed

-- the words that a reader was given, in order
abbrev pub words_read : Reader → List ℕ
words_read r = r.seat.me.0.read

-- the words that were published when the reader loaded the length last
abbrev pub words_seen : Reader → List ℕ
words_seen r = r.seat.me.0.log

-- whether the reader found the tail closed when it loaded the closed word last
abbrev pub saw_closed : Reader → Bool
saw_closed r = r.seat.me.0.closed

-- how often the reader loaded the closed word and then the length
abbrev pub looks_of : Reader → ℕ
looks_of r = r.seat.me.0.looks

-- whether a poll of this reader answered End
abbrev pub got_end : Reader → Bool
got_end r = r.seat.me.0.ended

-- What a poll answers, by the reader before and after it and the buffer after it: the next words, as many as it saw and fit the buffer; nothing yet, of a tail
-- that was found open before it was found read to its end; or the end, of a tail that was found closed before.
abbrev pub Answers : Reader → List ℕ → Reader → List ℕ → Polled → Type 0
Answers old before new after (Words n) = (0 < n) × (n ≡ min (length (words_seen new) - length (words_read old)) (length before)) × (words_read new ≡ words_read old ++ take n after) × (drop n after ≡ drop n before) × (got_end new ≡ got_end old)
Answers old before new after NotYet = (saw_closed new ≡ false) × (words_seen new ≡ words_read old) × (words_read new ≡ words_read old) × (after ≡ before) × (got_end new ≡ got_end old)
Answers old before new after End = (saw_closed new ≡ true) × (words_seen new ≡ words_read old) × (words_read new ≡ words_read old) × (after ≡ before) × (got_end new ≡ true)
