use Rattle.std.proofs.Common.{◌≡◌, ◌+◌, ◌≤◌, length, sum, take, ap, sym, subst, ◌∙◌, arith}
use Rattle.std.specs.List.{All}
use Rattle.std.proofs.lemmas.List.Elements.{All-nil}
use Rattle.wal_roll.specs.Log.{LogValue, wal, log_name}
use Rattle.wal_roll.specs.Steps.{OnlyFile}
use Rattle.wal_roll.proofs.Logs.{only_file}
use Rattle.wal_roll.proofs.Sealing.{sealed_at, kept_writer, length_first}
use Rattle.wal_roll.proofs.writer.LogWriter.seal.Goals as goal

pub invariant_of-self : goal.invariant_of-self
invariant_of-self g c =
    let kept = c.self.invariant in
    let lengths = c.deref.ensures.value in
    let again = c.deref-in-At.ensures.value in
    let few : c.whole_count-count.result ≤ length c.self.inside.lengths.items = subst (λ ls. c.whole_count-count.result ≤ length ls) lengths c.whole_count-count.ensures.most in
    let size : c.sum_of_first-size.result ≡ sum (take c.whole_count-count.result c.self.inside.lengths.items) = c.sum_of_first-size.ensures.value ∙ ap (λ ls. sum (take c.whole_count-count.result ls)) again in
    let most : c.sum_of_first-size.result ≤ sum c.self.inside.lengths.items = subst (λ ls. c.sum_of_first-size.result ≤ sum ls) again c.sum_of_first-size.ensures.most in
    let empty = c.clear.ensures.items in
    let within : c.self.inside.committed + c.whole_count-count.result ≤ c.self.inside.synced + c.sum_of_first-size.result = omega (arith, kept.least, size, length_first c.whole_count-count.result c.self.inside.lengths.items kept.each few) in
    record {
      name = kept.name;
      used = omega (arith, ap sum empty);
      few = omega (arith, kept.used, kept.few, most);
      count = omega (arith, within, ap length empty);
      least = within;
      each = subst (All (λ l. 1 ≤ l)) (sym empty) (All-nil (λ l. 1 ≤ l));
    }

pub returns-in-At-clause-does : goal.returns-in-At-clause-does
returns-in-At-clause-does g c = λ log writer.
    let does = c.in-At.ensures.does in
    let size : c.sum_of_first-size.result ≡ sum (take c.whole_count-count.result c.self.inside.lengths.items) = c.sum_of_first-size.ensures.value ∙ ap (λ ls. sum (take c.whole_count-count.result ls)) c.deref-in-At.ensures.value in
    let empty = c.clear.ensures.items in
    let sealed = sealed_at _ _ _ _ log c.as_str.result.now does.0 c.in-At.len c.whole_count-count.result c.deref.result.now c.self.view_is (c.as_str.ensures.value ∙ c.self.invariant.name) does.1 does.2.synced does.2.written does.3 c.deref.ensures.value c.whole_count-count.ensures.value writer in
    (kept_writer _ _ _ log c.whole_count-count.result c.self.view_is writer.same sealed.few (cc (size, empty)), sealed)

pub returns-in-At-clause-frame : goal.returns-in-At-clause-frame
returns-in-At-clause-frame g c =
    let does = c.in-At.ensures.does in
    let name : c.as_str.result.now ≡ log_name c.args.self.now.server c.args.self.now.number = c.as_str.ensures.value ∙ (c.self.invariant.name ∙ ap (λ (v : LogValue). log_name v.server v.number) c.self.view_is) in
    subst (λ n. OnlyFile wal n (g.V.Vault.contents c.args.vault.now) (g.V.Vault.contents c.try_seal.new.vault)) name (only_file wal c.as_str.result.now _ _ _ does.3)
