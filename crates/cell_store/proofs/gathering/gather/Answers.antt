use Rattle.std.proofs.Common.{◌≡◌, All, refl, ap, sym, ◌∙◌, subst, get_or, arith}
use Rattle.std.proofs.lemmas.List.{take_all}
use Rattle.std.proofs.lemmas.List.Elements.{All-nil, All-more}
use Rattle.rep_vault.specs.Contents.{Contents}
use Rattle.cell_store.specs.declared.named.NamedRun.{NamedRun}
use Rattle.cell_store.specs.Cells.{named_cells, IsThere}
use Rattle.cell_store.specs.Steps.{AreHeld, of_rows}
use Rattle.cell_store.proofs.Gathered.{begins, agree, goes_on}
use Rattle.cell_store.proofs.gathering.gather.Goals as goal

pub loop-run-init : goal.loop-run-init
loop-run-init g c = record {
  together = begins (g.R.Rows.wants c.args.rows.now) (g.V.Vault.contents c.args.vault.now) c.args.memory.now c.args.runs.now c.in_ok-all.all c.requires.order c.in_ok-all.ensures;
  held = All-nil (AreHeld (g.V.Vault.contents c.args.vault.now));
  same = refl;
  counts = record { kept = λ k. omega arith; planned = refl };
}

pub read_rows-requires : goal.read_rows-requires
read_rows-requires g c =
    let item = c.run-item.result in
    subst (λ (v : Contents). IsThere v item) (sym c.loop-run.invariant.same)
    (subst (λ (r : NamedRun). IsThere (g.V.Vault.contents c.args.vault.now) r) (sym c.run-item.is) (c.requires.there c.loop-run.run-index item c.loop-run-test.true))

pub merge-requires-clause-agree : goal.merge-requires-clause-agree
merge-requires-clause-agree g c =
    let wanted = g.R.Rows.wants c.args.rows.now in
    let store = g.V.Vault.contents c.args.vault.now in
    let item = c.run-item.result in
    let part : c.in_ok-part.part ≡ of_rows wanted (named_cells store (get_or c.args.runs.now c.loop-run.run-index item))
    = c.in_ok-part.ensures.does ∙ ap (λ (v : Contents). of_rows wanted (named_cells v item)) c.loop-run.invariant.same ∙ ap (λ (r : NamedRun). of_rows wanted (named_cells store r)) c.run-item.is in
    agree wanted store c.args.memory.now c.args.runs.now c.loop-run.run-index item c.loop-run.all c.in_ok-part.part c.loop-run-test.true part c.requires.apart c.loop-run.invariant.together

pub loop-run-preserved : goal.loop-run-preserved
loop-run-preserved g c =
    let wanted = g.R.Rows.wants c.args.rows.now in
    let store = g.V.Vault.contents c.args.vault.now in
    let item = c.run-item.result in
    let part : c.in_ok-part.part ≡ of_rows wanted (named_cells store (get_or c.args.runs.now c.loop-run.run-index item))
    = c.in_ok-part.ensures.does ∙ ap (λ (v : Contents). of_rows wanted (named_cells v item)) c.loop-run.invariant.same ∙ ap (λ (r : NamedRun). of_rows wanted (named_cells store r)) c.run-item.is in
    let before = c.loop-run.invariant.counts in
    let now = c.read_rows.ensures.tells in
    let held = subst (λ (r : NamedRun). AreHeld store r) c.run-item.is (subst (λ (v : Contents). AreHeld v item) c.loop-run.invariant.same c.in_ok-part.ensures.held) in
    record {
      together = goes_on wanted store c.args.memory.now c.args.runs.now c.loop-run.run-index item c.loop-run.all c.in_ok-part.part c.in_ok-all-2.all c.loop-run-test.true part c.in_ok-all-2.ensures c.loop-run.invariant.together;
      held = All-more (AreHeld store) c.args.runs.now c.loop-run.run-index item c.loop-run-test.true c.loop-run.invariant.held held;
      same = c.read_rows.ensures.kept ∙ c.loop-run.invariant.same;
      counts = record { kept = λ k. omega (arith, before.kept k, now.kept k); planned = now.planned ∙ before.planned };
    }

pub returns-clause-held : goal.returns-clause-held
returns-clause-held g c =
    subst (All (AreHeld (g.V.Vault.contents c.args.vault.now))) (take_all c.loop-run.run-index c.args.runs.now c.loop-run-test.false) c.loop-run.invariant.held
