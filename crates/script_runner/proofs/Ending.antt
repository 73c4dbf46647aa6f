-- What a performance leaves, once the stores are handed back.
use Rattle.std.proofs.Common.{ℕ, ◌≡◌, Bool, false, List}
use Rattle.rep_types.specs.declared.ids.Cluster.TheVariants.{A, B}
use Rattle.rep_types.specs.declared.record.Record.{Record}
use Rattle.rep_model.specs.Runs.{IsLegal, state_of, faults_of}
use Rattle.rep_vault.specs.Contents.{Contents}
use Rattle.rep_vault.specs.Tallies.{Tally, IsBounded}
use Rattle.pair_core.specs.Pair.{both}
use Rattle.pair_core.specs.Sides.{Covers}
use Rattle.pair_core.specs.Stored.{Stored}
use Rattle.pair_core.specs.Told.{CountsTold}
use Rattle.script_text.specs.declared.command.Command.{Command}
use Rattle.script_runner.specs.Ran.{Performed}
use Rattle.script_runner.specs.Underway.{Left}
use Rattle.script_runner.proofs.Lawful.{lawful}
use Rattle.script_runner.proofs.Planning.{few-faults}
use Rattle.script_runner.proofs.Told.{told-few}

pub performed : {V : Type 0} (contents : V → Contents) (tally : V → Tally) → ((v : V) → IsBounded (tally v)) → (commands : List Command) (got : List ℕ → Type 0) (journal : List Record) (spent : Bool) (a b : V)
    → IsLegal journal → (spent ≡ false → Stored (both contents a b) (state_of journal)) → Covers (faults_of journal A) (tally a) → Covers (faults_of journal B) (tally b)
    → CountsTold A journal (tally a) → CountsTold B journal (tally b)
    → Left commands got journal spent (tally a) (tally b) → Performed commands got (both contents a b) (both tally a b)
performed contents tally bounded commands got journal spent a b legal stored covers_a covers_b counts_a counts_b left =
    let few_a = few-faults A commands (tally a) (bounded a) left.planned_a in
    let few_b = few-faults B commands (tally b) (bounded b) left.planned_b in
    record {
      journal = journal;
      expands = left.expands;
      legal = legal;
      lawful = lawful journal legal;
      output = left.output;
      stored = stored left.usable;
      covers_a = covers_a;
      covers_b = covers_b;
      counts_a = counts_a;
      counts_b = counts_b;
      few_a = few_a;
      few_b = few_b;
      told_a = told-few A commands journal (tally a) counts_a few_a;
      told_b = told-few B commands journal (tally b) counts_b few_b;
    }
