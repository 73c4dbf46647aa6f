use Rattle.std.proofs.Common.{Bool, refl, subst}
use Rattle.rep_model.specs.Runs.{state_of}
use Rattle.pair_core.specs.Pair.{IsPair}
use Rattle.pair_core.proofs.Steps.{pair_goes_on, pair_fails, reached_now}
use Rattle.pair_core.proofs.pair.Pair.step.Goals as goal

pub invariant_of-self-in-Err : goal.invariant_of-self-in-Err
invariant_of-self-in-Err g c =
    let pair = subst (λ (s : Bool). IsPair g.V.Vault.contents g.V.Vault.tally c.self.inside.journal.items s c.self.inside.sides c.self.inside.a c.self.inside.b) c.if-self.false c.self.invariant in
    rw (c.reserve.ensures.items, c.is_changed-self-inside.ensures) (pair_fails g.V.Vault.contents g.V.Vault.tally c.self.inside.journal.items c.in-Err.error c.args.event c.self.inside.sides c.perform.new.sides c.self.inside.a c.self.inside.b c.perform.new.a c.perform.new.b pair
    (c.in-Err.ensures.does (state_of c.self.inside.journal.items) (reached_now c.self.inside.journal.items pair.legal) (pair.stand refl)) c.in-Err.ensures.counts_a c.in-Err.ensures.counts_b)

pub invariant_of-self-2 : goal.invariant_of-self-2
invariant_of-self-2 g c =
    let pair = subst (λ (s : Bool). IsPair g.V.Vault.contents g.V.Vault.tally c.self.inside.journal.items s c.self.inside.sides c.self.inside.a c.self.inside.b) c.if-self.false c.self.invariant in
    rw (c.in-Ok-push.ensures.items, c.reserve.ensures.items, c.in-Ok-copy.ensures, c.faults.ensures, c.faults-2.ensures)
    (pair_goes_on g.V.Vault.contents g.V.Vault.tally c.self.inside.journal.items c.self.inside.sides c.perform.new.sides c.self.inside.a c.self.inside.b c.perform.new.a c.perform.new.b c.args.event c.in-Ok-perform.reply c.args.actor pair c.requires.worded
    (c.in-Ok-perform.ensures.does (state_of c.self.inside.journal.items) (reached_now c.self.inside.journal.items pair.legal) (pair.stand refl)) c.in-Ok-perform.ensures.counts_a c.in-Ok-perform.ensures.counts_b c.in-Ok-perform.ensures.told)
