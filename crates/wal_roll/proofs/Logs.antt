-- A log after a call on its file.
use Rattle.std.proofs.Common.{◌≡◌, ℕ, ◌+◌, true, false, List, [], ◌∷◌, ◌++◌, length, take, map, sum, Option, Some, None, IfSome, ◌≢◌, refl, ap, sym, ◌∙◌, subst, arith, append_assoc, append-nil, length-append}
use Rattle.std.proofs.lemmas.Option.{same_Some}
use Rattle.std.proofs.lemmas.List.{map-append, length-map}
use Rattle.std.proofs.lemmas.List.Sums.{sum_by_push, sum-map}
use Rattle.std.proofs.lemmas.List.Concat.{length-flat_map}
use Rattle.std.proofs.lemmas.Grind.{flat_map-append}
use Rattle.rep_types.specs.declared.entry.Entry.{Entry}
use Rattle.wal_entry.specs.Length.{frame_length_of}
use Rattle.wal_entry.specs.Spelling.{spelling}
use Rattle.wal_entry.proofs.Verdicts.{length-spelling}
use Rattle.rep_vault.specs.Contents.{File, empty_file, Contents, with_file}
use Rattle.rep_vault.specs.Calls.{IsOpen, longer, synced_whole}
use Rattle.rep_vault.proofs.Frames.{file_here, file_other, stands_file, records_file, file_as_before}
use Rattle.wal_roll.specs.Log.{Log, LogValue, Tail, Holds, IsWriter, wal, log_name, frames, frame_size, used_of, writer_of}
use Rattle.wal_roll.specs.Steps.{OnlyFile, new_log, pushed, broken_by, settled}

pub sum_more : (xs : List ℕ) (y : ℕ) → sum (xs ++ y ∷ []) ≡ sum xs + y
sum_more xs y = sum_by_push (λ x. x) xs y

pub frames-append : (xs ys : List Entry) → frames (xs ++ ys) ≡ frames xs ++ frames ys
frames-append xs ys = flat_map-append spelling xs ys

pub frames_one : (e : Entry) → frames (e ∷ []) ≡ spelling e
frames_one e = append-nil (spelling e)

pub sizes : (xs : List Entry) → sum (map frame_size xs) ≡ length (frames xs)
sizes xs = sum-map frame_size xs ∙ sym (length-flat_map spelling xs)

-- what stands is an empty file
stands_empty : (o : Option File) → IfSome o (λ x. x ≡ empty_file) → o ≢ None → o ≡ Some empty_file
stands_empty None free there = absurd (there refl)
stands_empty (Some x) free there = ap Some free

pub made_already : (f n : List ℕ) (old new : Contents) → IfSome (old.files f n) (λ x. x ≡ empty_file) → old.files f n ≢ None → new ≡ old → new ≡ with_file f n empty_file old
made_already f n old new free there same = same ∙ sym (file_as_before f n empty_file old (stands_empty (old.files f n) free there))

-- a change of one file
pub only_file : (f n : List ℕ) (x : File) (old new : Contents) → new ≡ with_file f n x old → OnlyFile f n old new
only_file f n x old new is = record {
  others = λ g m apart. ap (λ c. c.files g m) is ∙ file_other f n g m (Some x) old apart;
  stands = ap (λ c. c.stands) is ∙ stands_file f n (Some x) old;
  records = ap (λ c. c.records) is ∙ records_file f n (Some x) old;
}

pub same_contents : (f n : List ℕ) (old new : Contents) → new ≡ old → OnlyFile f n old new
same_contents f n old new is = record {
  others = λ g m apart. ap (λ c. c.files g m) is;
  stands = ap (λ c. c.stands) is;
  records = ap (λ c. c.records) is;
}

pub created : (old new : Contents) (w : LogValue) (server number : ℕ) (n : List ℕ) → n ≡ log_name server number → new ≡ with_file wal n empty_file old → w ≡ writer_of (new_log server number) → IsWriter new w (new_log server number)
created old new w server number n named is made = record {
  same = made;
  file = record {
    file = empty_file;
    there = ap (λ c. c.files wal (log_name server number)) is ∙ (ap (λ m. (with_file wal n empty_file old).files wal m) (sym named) ∙ file_here wal n (Some empty_file) old);
    holds = record { unsealed = refl; synced = refl; rest = []; bytes = refl; tail = refl };
  };
}

-- what a writer that isn't broken tells of its log, and of an entry's frame
pub told : (old : Contents) (v w : LogValue) (log : Log) (used need : ℕ) (e : Entry) → v ≡ w → IsWriter old w log → v.broken ≡ false → used ≡ used_of v → need ≡ frame_length_of e → (log.broken ≡ false) × (used ≡ used_of w) × (need ≡ frame_size e)
told old v w log used need e is writer whole all size = (ap (λ (u : LogValue). u.broken) (sym writer.same ∙ sym is) ∙ whole, all ∙ ap used_of is, size ∙ sym (length-spelling e))

-- the file is the one that was opened
module _ (old : Contents) (w : LogValue) (log : Log) (writer : IsWriter old w log) where
  pub opened : (n : List ℕ) (x : File) → n ≡ log_name w.server w.number → old.files wal n ≡ Some x → Holds x log
  opened n x named there =
      let name : n ≡ log_name log.server log.number = named ∙ ap (λ (v : LogValue). log_name v.server v.number) writer.same in
      let same : writer.file.file ≡ x = same_Some _ _ (sym writer.file.there ∙ (ap (old.files wal) (sym name) ∙ there)) in
      subst (λ y. Holds y log) same writer.file.holds

  pub append_ok : (n : List ℕ) (x : File) (new : Contents) (w' : LogValue) (e : Entry) → n ≡ log_name w.server w.number → IsOpen old wal n x → new ≡ with_file wal n (longer (spelling e) x) old → log.broken ≡ false
      → w' ≡ record w { lengths = w.lengths ++ frame_size e ∷ [] } → IsWriter new w' (pushed e log)
  append_ok n x new w' e named at is whole made =
      let holds : Holds x log = opened n x named at.there in
      let tail : holds.rest ≡ frames log.pending = subst (λ b. Tail b holds.rest log.pending) whole holds.tail in
      let grown : holds.rest ++ spelling e ≡ frames (log.pending ++ e ∷ []) = ap (λ r. r ++ spelling e) tail ∙ (ap (λ l. frames log.pending ++ l) (sym (frames_one e)) ∙ sym (frames-append log.pending (e ∷ []))) in
      record {
        same = made ∙ (ap (λ (v : LogValue). record v { lengths = v.lengths ++ frame_size e ∷ [] }) writer.same ∙ ap (λ l. record (writer_of log) { lengths = l }) (sym (map-append frame_size log.pending (e ∷ []))));
        file = record {
          file = longer (spelling e) x;
          there = ap (λ c. c.files wal (log_name log.server log.number)) is ∙ (ap (λ m. (with_file wal n (longer (spelling e) x) old).files wal m) (sym (named ∙ ap (λ (v : LogValue). log_name v.server v.number) writer.same)) ∙ file_here wal n _ old);
          holds = record {
            unsealed = holds.unsealed;
            synced = holds.synced;
            rest = holds.rest ++ spelling e;
            bytes = ap (λ l. l ++ spelling e) holds.bytes ∙ append_assoc (frames log.committed) holds.rest (spelling e);
            tail = subst (λ b. Tail b (holds.rest ++ spelling e) (log.pending ++ e ∷ [])) (sym whole) grown;
          };
        };
      }

  pub append_failed : (n : List ℕ) (x : File) (new : Contents) (w' : LogValue) (e : Entry) (most : ℕ) → n ≡ log_name w.server w.number → IsOpen old wal n x → new ≡ with_file wal n (longer (take most (spelling e)) x) old → log.broken ≡ false
      → w' ≡ record w { lengths = w.lengths ++ frame_size e ∷ []; broken = true } → IsWriter new w' (broken_by (e ∷ []) log)
  append_failed n x new w' e most named at is whole made =
      let holds : Holds x log = opened n x named at.there in
      let tail : holds.rest ≡ frames log.pending = subst (λ b. Tail b holds.rest log.pending) whole holds.tail in
      let cut = take most (spelling e) in
      record {
        same = made ∙ (ap (λ (v : LogValue). record v { lengths = v.lengths ++ frame_size e ∷ []; broken = true }) writer.same ∙ ap (λ l. record (writer_of log) { lengths = l; broken = true }) (sym (map-append frame_size log.pending (e ∷ []))));
        file = record {
          file = longer cut x;
          there = ap (λ c. c.files wal (log_name log.server log.number)) is ∙ (ap (λ m. (with_file wal n (longer cut x) old).files wal m) (sym (named ∙ ap (λ (v : LogValue). log_name v.server v.number) writer.same)) ∙ file_here wal n _ old);
          holds = record {
            unsealed = holds.unsealed;
            synced = holds.synced;
            rest = holds.rest ++ cut;
            bytes = ap (λ l. l ++ cut) holds.bytes ∙ append_assoc (frames log.committed) holds.rest cut;
            tail = record {
              front = log.pending;
              back = e ∷ [];
              kept = most;
              split = refl;
              one = omega arith;
              bytes = ap (λ l. l ++ cut) tail ∙ ap (λ l. frames log.pending ++ take most l) (sym (frames_one e));
            };
          };
        };
      }

  pub sync_ok : (n : List ℕ) (x : File) (new : Contents) (w' : LogValue) → n ≡ log_name w.server w.number → IsOpen old wal n x → new ≡ with_file wal n (synced_whole x) old → log.broken ≡ false
      → w' ≡ record w { committed = w.committed + length w.lengths; synced = w.synced + sum w.lengths; lengths = [] } → IsWriter new w' (settled log)
  sync_ok n x new w' named at is whole made =
      let holds : Holds x log = opened n x named at.there in
      let tail : holds.rest ≡ frames log.pending = subst (λ b. Tail b holds.rest log.pending) whole holds.tail in
      let all : x.bytes ≡ frames (log.committed ++ log.pending) = holds.bytes ∙ (ap (λ l. frames log.committed ++ l) tail ∙ sym (frames-append log.committed log.pending)) in
      let long : length (frames log.committed) + sum (map frame_size log.pending) ≡ length (frames (log.committed ++ log.pending)) = ap (λ k. length (frames log.committed) + k) (sizes log.pending) ∙ (sym (length-append (frames log.committed) (frames log.pending)) ∙ ap length (sym (frames-append log.committed log.pending))) in
      let many : length log.committed + length (map frame_size log.pending) ≡ length (log.committed ++ log.pending) = ap (λ k. length log.committed + k) (length-map log.pending frame_size) ∙ sym (length-append log.committed log.pending) in
      record {
        same = made ∙ (ap (λ (v : LogValue). record v { committed = v.committed + length v.lengths; synced = v.synced + sum v.lengths; lengths = [] }) writer.same ∙ (λ i. record { server = log.server; number = log.number; committed = many i; synced = long i; lengths = []; broken = log.broken }));
        file = record {
          file = synced_whole x;
          there = ap (λ c. c.files wal (log_name log.server log.number)) is ∙ (ap (λ m. (with_file wal n (synced_whole x) old).files wal m) (sym (named ∙ ap (λ (v : LogValue). log_name v.server v.number) writer.same)) ∙ file_here wal n _ old);
          holds = record {
            unsealed = holds.unsealed;
            synced = ap length all;
            rest = [];
            bytes = all ∙ sym (append-nil (frames (log.committed ++ log.pending)));
            tail = subst (λ b. Tail b [] []) (sym whole) refl;
          };
        };
      }

  pub sync_failed : (new : Contents) (w' : LogValue) → new ≡ old → log.broken ≡ false → w' ≡ record w { broken = true } → IsWriter new w' (broken_by [] log)
  sync_failed new w' is whole made =
      let holds = writer.file.holds in
      let tail : holds.rest ≡ frames log.pending = subst (λ b. Tail b holds.rest log.pending) whole holds.tail in
      record {
        same = made ∙ (ap (λ (v : LogValue). record v { broken = true }) writer.same ∙ ap (λ l. record (writer_of log) { lengths = map frame_size l; broken = true }) (sym (append-nil log.pending)));
        file = record {
          file = writer.file.file;
          there = ap (λ c. c.files wal (log_name log.server log.number)) is ∙ writer.file.there;
          holds = record {
            unsealed = holds.unsealed;
            synced = holds.synced;
            rest = holds.rest;
            bytes = holds.bytes;
            tail = record {
              front = log.pending;
              back = [];
              kept = 0;
              split = refl;
              one = omega arith;
              bytes = tail ∙ sym (append-nil (frames log.pending));
            };
          };
        };
      }
