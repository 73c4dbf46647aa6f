-- In a ring a later write of c to a cell that a wrote wins in all three clusters.
use Rattle.std.specs.Prelude.{List, [], ◌∷◌, codes}
use Rattle.rep_types.specs.declared.ids.Cluster.TheVariants.{A, B, C}
use Rattle.rep_types.specs.declared.state.Kind.TheVariants as kind
use Rattle.rep_types.specs.declared.event.Event.TheVariants as event
use Rattle.rep_types.specs.declared.reply.Reply.TheVariants as reply
use Rattle.rep_model.specs.Runs.{Step}
use Rattle.worked_runs.specs.Openings.{write, seen}
use Rattle.worked_runs.specs.WriteGoesRound.{goes}

unfoldable pub later_write_wins_in_the_ring : List Step
later_write_wins_in_the_ring =
    goes (event.Server A 1) reply.Done
    ∷ goes (event.Server B 1) reply.Done
    ∷ goes (event.Server C 1) reply.Done
    ∷ goes (event.Table A (codes "t") (record { name = (codes "f"); scope = 1 } ∷ [])) (reply.Made 1)
    ∷ goes (event.Table B (codes "t") (record { name = (codes "f"); scope = 1 } ∷ [])) (reply.Made 1)
    ∷ goes (event.Table C (codes "t") (record { name = (codes "f"); scope = 1 } ∷ [])) (reply.Made 1)
    ∷ goes (event.OpenBegin A 1 1) (reply.Begun 1)
    ∷ goes (event.OpenEnd A 1) (reply.Marked 1 [])
    ∷ goes (event.OpenBegin B 1 1) (reply.Begun 1)
    ∷ goes (event.OpenEnd B 1) (reply.Marked 1 [])
    ∷ goes (event.OpenBegin C 1 1) (reply.Begun 1)
    ∷ goes (event.OpenEnd C 1) (reply.Marked 1 [])
    ∷ goes (event.Peer A 1 kind.Plain ((codes "t") ∷ [])) reply.Done
    ∷ goes (event.Peer B 1 kind.Plain ((codes "t") ∷ [])) reply.Done
    ∷ goes (event.Peer C 1 kind.Plain ((codes "t") ∷ [])) reply.Done
    ∷ goes (event.Put A (codes "t") (codes "r1") (write 10 (codes "v"))) (reply.Accepted 1 2 1)
    ∷ goes (event.Sync A 1) (reply.Synced 1 (1 ∷ []))
    ∷ goes (event.Put C (codes "t") (codes "r1") (write 20 (codes "w"))) (reply.Accepted 1 2 2)
    ∷ goes (event.Sync C 1) (reply.Synced 1 (2 ∷ []))
    ∷ goes (event.Send A 1 1 25) (reply.Sent 1 1 1)
    ∷ goes (event.Deliver 1) (reply.All 1 [])
    ∷ goes (event.Confirm 1) (reply.Recorded 1)
    ∷ goes (event.Send B 1 1 25) (reply.Sent 2 1 1)
    ∷ goes (event.Deliver 2) (reply.All 1 [])
    ∷ goes (event.Confirm 2) (reply.Recorded 1)
    ∷ goes (event.Send C 1 1 25) (reply.Sent 3 2 1)
    ∷ goes (event.Deliver 3) (reply.All 1 [])
    ∷ goes (event.Confirm 3) (reply.Recorded 2)
    ∷ goes (event.Send A 1 1 25) (reply.Sent 4 1 1)
    ∷ goes (event.Deliver 4) (reply.All 1 [])
    ∷ goes (event.Confirm 4) (reply.Recorded 1)
    ∷ goes (event.Send B 1 1 25) (reply.Sent 5 1 0)
    ∷ goes (event.Deliver 5) (reply.All 0 [])
    ∷ goes (event.Confirm 5) (reply.Recorded 1)
    ∷ goes (event.Show A (codes "t")) (reply.Shown (seen (codes "r1") 20 (codes "w") ∷ []))
    ∷ goes (event.Show B (codes "t")) (reply.Shown (seen (codes "r1") 20 (codes "w") ∷ []))
    ∷ goes (event.Show C (codes "t")) (reply.Shown (seen (codes "r1") 20 (codes "w") ∷ []))
    ∷ []
