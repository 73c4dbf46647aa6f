-- What the decoder's steps say of the place that they begin at.
use Rattle.std.specs.Prelude.{◌≡◌, ℕ, List, Result, Ok, Err}
use Rattle.rep_types.specs.declared.entry.Entry.{Entry}
use Rattle.wal_entry.specs.declared.decode.cursor.Cursor.{Cursor}
use Rattle.wal_entry.specs.declared.decode.cursor.Stop.{Stop}
use Rattle.wal_entry.specs.declared.decode.cursor.Stop.TheVariants as stop
use Rattle.wal_entry.specs.declared.decode.front.Start.{Start}
use Rattle.wal_entry.specs.declared.decode.front.Start.TheVariants as start
use Rattle.wal_entry.specs.Frame.{verdict}
use Rattle.wal_entry.specs.Judging.{Place, Verdict, Whole, Broken, Cut}
use Rattle.wal_entry.specs.Resumed.{IsBegun}

abbrev pub place : Cursor → Place
place c = record { at = c.at; end = c.end; rest = c.rest.now }

abbrev pub Stops : {Y : Type 0} → Stop → Verdict Y → Type 0
Stops (stop.Bad at rule) v = v ≡ Broken at rule
Stops (stop.Short until) v = v ≡ Cut until
Stops stop.Memory v = Unit {0}

abbrev pub StopsIfErr : {X Y : Type 0} → Result X Stop → Verdict Y → Type 0
StopsIfErr (Ok x) v = Unit {0}
StopsIfErr (Err e) v = Stops e v

-- a step's value, seen by view, and the place after it
abbrev pub Reads : {X Y : Type 0} → (X → Y) → Result (X × Cursor) Stop → Verdict Y → Type 0
Reads view (Ok x) v = v ≡ Whole (view x.0) (place x.1)
Reads view (Err e) v = Stops e v

-- the last step ends a frame of so many bytes
abbrev pub Ends : Result ℕ Stop → Entry → Verdict Entry → Type 0
Ends (Ok length) entry v = (p : Place) × (v ≡ Whole entry p) × (p.at ≡ length)
Ends (Err e) entry v = Stops e v

-- the step ends a marker's frame
abbrev pub Marks : Result Start Stop → Verdict Entry → Type 0
Marks (Ok (start.Marker entry length)) v = (p : Place) × (v ≡ Whole entry p) × (p.at ≡ length)
Marks (Ok (start.Write b)) v = ⊥
Marks (Err e) v = Stops e v

-- the first steps in these bytes
abbrev pub Starts : Result Start Stop → List ℕ → Type 0
Starts (Ok (start.Marker entry length)) bytes = (p : Place) × (verdict bytes ≡ Whole entry p) × (p.at ≡ length)
Starts (Ok (start.Write b)) bytes = IsBegun b bytes
Starts (Err e) bytes = Stops e (verdict bytes)
