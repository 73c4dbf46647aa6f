use Rattle.std.proofs.Common.{◌≡◌, ◌+◌, ◌≤◌, false, [], ◌∷◌, ◌++◌, length, sum, refl, ap, sym, subst, ◌∙◌, arith, take, length-append}
use Rattle.std.specs.List.{All}
use Rattle.std.proofs.lemmas.List.Elements.{All-push}
use Rattle.rep_vault.specs.Contents.{with_file}
use Rattle.rep_vault.specs.Calls.{longer}
use Rattle.wal_entry.specs.Spelling.{spelling}
use Rattle.wal_entry.proofs.Verdicts.{length-spelling}
use Rattle.wal_roll.specs.Log.{LogValue, IsWriter, wal, frame_size, used_of, log_name}
use Rattle.wal_roll.specs.Steps.{OnlyFile}
use Rattle.wal_roll.proofs.Logs.{sum_more, only_file, told, append_ok, append_failed}
use Rattle.wal_roll.proofs.writer.LogWriter.append.Goals as goal

pub invariant_of-self-in-Done : goal.invariant_of-self-in-Done
invariant_of-self-in-Done g c =
    let kept = c.self.invariant in
    let items : c.pend.new.lengths.items ≡ c.self.inside.lengths.items ++ c.entry_length-need.result ∷ [] = c.pend.ensures.items ∙ ap (λ l. l ++ c.entry_length-need.result ∷ []) c.reserve.ensures.items in
    let more : sum c.pend.new.lengths.items ≡ sum c.self.inside.lengths.items + c.entry_length-need.result = ap sum items ∙ sum_more c.self.inside.lengths.items c.entry_length-need.result in
    let many : length c.pend.new.lengths.items ≡ length c.self.inside.lengths.items + 1 = ap length items ∙ length-append c.self.inside.lengths.items (c.entry_length-need.result ∷ []) in
    record {
      name = kept.name;
      used = omega (arith, kept.used, more, c.pend.ensures.used);
      few = omega (arith, c.pend.ensures.used);
      count = omega (arith, kept.count, many, c.pend.ensures.used, c.entry_length-need.ensures.least);
      least = kept.least;
      each = subst (All (λ l. 1 ≤ l)) (sym items) (All-push (λ l. 1 ≤ l) _ _ kept.each (omega (arith, c.entry_length-need.ensures.least)));
    }

pub returns-in-Done-clause-does : goal.returns-in-Done-clause-does
returns-in-Done-clause-does g c = λ log writer.
    let old = g.V.Vault.contents c.args.vault.now in
    let w : IsWriter old _ log = subst (λ v. IsWriter old v log) (sym c.self.view_is) writer in
    let whole : log.broken ≡ false = ap (λ (v : LogValue). v.broken) (sym w.same) ∙ c.if-self.false in
    let does = c.in-Done.ensures.does in
    let piece : c.as_slice.result.now ≡ spelling c.args.entry.now = c.as_slice.ensures ∙ (c.in-Ok.ensures.ok ∙ ap (λ l. l ++ spelling c.args.entry.now) c.new-piece.ensures) in
    let items : c.pend.new.lengths.items ≡ c.self.inside.lengths.items ++ c.entry_length-need.result ∷ [] = c.pend.ensures.items ∙ ap (λ l. l ++ c.entry_length-need.result ∷ []) c.reserve.ensures.items in
    let size : c.entry_length-need.result ≡ frame_size c.args.entry.now = c.entry_length-need.ensures.value ∙ sym (length-spelling c.args.entry.now) in
    let room : used_of c.args.self.now + frame_size c.args.entry.now ≤ 65536 = subst (λ (v : LogValue). used_of v + frame_size c.args.entry.now ≤ 65536) c.self.view_is (omega (arith, size, c.self.invariant.used)) in
    (whole, room, append_ok _ _ log w _ does.0 _ _ c.args.entry.now (c.as_str.ensures.value ∙ c.self.invariant.name) does.1 (does.2 ∙ ap (λ p. with_file wal c.as_str.result.now (longer p does.0) old) piece) whole (cc (items, size)))

pub returns-in-Done-clause-frame : goal.returns-in-Done-clause-frame
returns-in-Done-clause-frame g c =
    let does = c.in-Done.ensures.does in
    let name : c.as_str.result.now ≡ log_name c.args.self.now.server c.args.self.now.number = c.as_str.ensures.value ∙ (c.self.invariant.name ∙ ap (λ (v : LogValue). log_name v.server v.number) c.self.view_is) in
    subst (λ n. OnlyFile wal n (g.V.Vault.contents c.args.vault.now) (g.V.Vault.contents c.try_append.new.vault)) name (only_file wal c.as_str.result.now _ _ _ does.2)

pub invariant_of-self-in-NotDone : goal.invariant_of-self-in-NotDone
invariant_of-self-in-NotDone g c =
    let kept = c.self.invariant in
    let items : c.pend-in-NotDone.new.lengths.items ≡ c.self.inside.lengths.items ++ c.entry_length-need.result ∷ [] = c.pend-in-NotDone.ensures.items ∙ ap (λ l. l ++ c.entry_length-need.result ∷ []) c.reserve.ensures.items in
    let more : sum c.pend-in-NotDone.new.lengths.items ≡ sum c.self.inside.lengths.items + c.entry_length-need.result = ap sum items ∙ sum_more c.self.inside.lengths.items c.entry_length-need.result in
    let many : length c.pend-in-NotDone.new.lengths.items ≡ length c.self.inside.lengths.items + 1 = ap length items ∙ length-append c.self.inside.lengths.items (c.entry_length-need.result ∷ []) in
    record {
      name = kept.name;
      used = omega (arith, kept.used, more, c.pend-in-NotDone.ensures.used);
      few = omega (arith, c.pend-in-NotDone.ensures.used);
      count = omega (arith, kept.count, many, c.pend-in-NotDone.ensures.used, c.entry_length-need.ensures.least);
      least = kept.least;
      each = subst (All (λ l. 1 ≤ l)) (sym items) (All-push (λ l. 1 ≤ l) _ _ kept.each (omega (arith, c.entry_length-need.ensures.least)));
    }

pub returns-in-NotDone-clause-does : goal.returns-in-NotDone-clause-does
returns-in-NotDone-clause-does g c = λ log writer.
    let old = g.V.Vault.contents c.args.vault.now in
    let w : IsWriter old _ log = subst (λ v. IsWriter old v log) (sym c.self.view_is) writer in
    let whole : log.broken ≡ false = ap (λ (v : LogValue). v.broken) (sym w.same) ∙ c.if-self.false in
    let does = c.in-NotDone.ensures.does in
    let piece : c.as_slice.result.now ≡ spelling c.args.entry.now = c.as_slice.ensures ∙ (c.in-Ok.ensures.ok ∙ ap (λ l. l ++ spelling c.args.entry.now) c.new-piece.ensures) in
    let items : c.pend-in-NotDone.new.lengths.items ≡ c.self.inside.lengths.items ++ c.entry_length-need.result ∷ [] = c.pend-in-NotDone.ensures.items ∙ ap (λ l. l ++ c.entry_length-need.result ∷ []) c.reserve.ensures.items in
    let size : c.entry_length-need.result ≡ frame_size c.args.entry.now = c.entry_length-need.ensures.value ∙ sym (length-spelling c.args.entry.now) in
    let room : used_of c.args.self.now + frame_size c.args.entry.now ≤ 65536 = subst (λ (v : LogValue). used_of v + frame_size c.args.entry.now ≤ 65536) c.self.view_is (omega (arith, size, c.self.invariant.used)) in
    (whole, room, refl, append_failed _ _ log w _ does.0 _ _ c.args.entry.now does.2 (c.as_str.ensures.value ∙ c.self.invariant.name) does.1 (does.3 ∙ ap (λ p. with_file wal c.as_str.result.now (longer (take does.2 p) does.0) old) piece) whole (cc (items, size)))

pub returns-in-NotDone-clause-frame : goal.returns-in-NotDone-clause-frame
returns-in-NotDone-clause-frame g c =
    let does = c.in-NotDone.ensures.does in
    let name : c.as_str.result.now ≡ log_name c.args.self.now.server c.args.self.now.number = c.as_str.ensures.value ∙ (c.self.invariant.name ∙ ap (λ (v : LogValue). log_name v.server v.number) c.self.view_is) in
    subst (λ n. OnlyFile wal n (g.V.Vault.contents c.args.vault.now) (g.V.Vault.contents c.try_append.new.vault)) name (only_file wal c.as_str.result.now _ _ _ does.3)

pub returns-then-self-need-gt-LIMIT-clause-does : goal.returns-then-self-need-gt-LIMIT-clause-does
returns-then-self-need-gt-LIMIT-clause-does g c = λ log writer.
    let t = told _ _ _ log c.self.inside.used c.entry_length-need.result c.args.entry.now c.self.view_is writer c.if-self.false c.self.invariant.used c.entry_length-need.ensures.value in
    (t.0, t.1, t.2, refl, omega arith, refl, refl)

pub returns-in_default-clause-does : goal.returns-in_default-clause-does
returns-in_default-clause-does g c = λ log writer.
    let t = told _ _ _ log c.self.inside.used c.entry_length-need.result c.args.entry.now c.self.view_is writer c.if-self.false c.self.invariant.used c.entry_length-need.ensures.value in
    (t.0, omega (arith, t.1, t.2), refl, refl)

pub returns-in_default-reserve-clause-does : goal.returns-in_default-reserve-clause-does
returns-in_default-reserve-clause-does g c = λ log writer.
    let t = told _ _ _ log c.self.inside.used c.entry_length-need.result c.args.entry.now c.self.view_is writer c.if-self.false c.self.invariant.used c.entry_length-need.ensures.value in
    let items = c.reserve.ensures.items in
    (t.0, omega (arith, t.1, t.2), cc (items, c.self.view_is), refl)

pub returns-clause-does : goal.returns-clause-does
returns-clause-does g c = λ log writer.
    let t = told _ _ _ log c.self.inside.used c.entry_length-need.result c.args.entry.now c.self.view_is writer c.if-self.false c.self.invariant.used c.entry_length-need.ensures.value in
    let items = c.reserve.ensures.items in
    (t.0, omega (arith, t.1, t.2), cc (items, c.self.view_is), c.in-NoMemory.ensures.does)
