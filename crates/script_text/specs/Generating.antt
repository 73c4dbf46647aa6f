-- The generator's script: a table that is replicated serially while its region moves between two servers.
use Rattle.std.specs.Prelude.{ℕ, zero, suc, ◌+◌, ◌-◌, ◌*◌, ◌/◌, ◌%◌, ◌^◌, ◌==◌, List, [], ◌∷◌, ◌++◌, codes, flat_map, if◌then◌else◌}
use Rattle.std.specs.Fmt.{decimal}
use Rattle.script_text.specs.declared.generator.Course.{Course}

-- the state of the draws after one more
unfoldable pub next : ℕ → ℕ
next x = (x * 6364136223846793005 + 1442695040888963407) % 2 ^ 64

-- what a state draws, below n
unfoldable pub drawn : ℕ → ℕ → ℕ
drawn n x = x / 2 ^ 33 % n

abbrev pub line_of : List ℕ → List ℕ
line_of line = line ++ 10 ∷ []

abbrev pub opening : List ℕ
opening = flat_map line_of (
    codes "server a 1"
    ∷ codes "server a 2"
    ∷ codes "server b 1"
    ∷ codes "table a t f/1"
    ∷ codes "table b t f/1"
    ∷ codes "open a 1 1"
    ∷ codes "open b 1 1"
    ∷ codes "peer a 1 serial t"
    ∷ [])

abbrev pub ending : List ℕ
ending = flat_map line_of (codes "drain" ∷ codes "show a t" ∷ codes "show b t" ∷ [])

-- a put into one of 64 rows, and its sync
unfoldable pub put_text : ℕ → ℕ → ℕ → List ℕ
put_text i d host =
    codes "put a t k" ++ decimal (d / 10) ++ decimal (d % 10) ++ codes " f:q@" ++ decimal i ++ codes "=v" ++ decimal i ++ 10 ∷ codes "sync a " ++ decimal host ++ 10 ∷ []

-- every twentieth time, a shipment of one of the two queues, which is drawn
unfoldable pub ship_text : ℕ → ℕ → List ℕ
ship_text i x = if i % 20 == 0 then codes "ship a 1 " ++ decimal (1 + drawn 2 (next x)) ++ 10 ∷ [] else []

unfoldable pub ship_draw : ℕ → ℕ → ℕ
ship_draw i x = if i % 20 == 0 then next x else x

-- every five hundredth time, both servers' logs roll
unfoldable pub roll_text : ℕ → List ℕ
roll_text i = if i % 500 == 0 then codes "roll a 1" ++ 10 ∷ codes "roll a 2" ++ 10 ∷ [] else []

-- every fiftieth time, the region moves to the other server
unfoldable pub move_text : ℕ → ℕ → List ℕ
move_text i host = if i % 50 == 0 then codes "move a 1 " ++ decimal (3 - host) ++ 10 ∷ [] else []

unfoldable pub move_host : ℕ → ℕ → ℕ
move_host i host = if i % 50 == 0 then 3 - host else host

-- the lines of the i-th time
unfoldable pub turn_text : ℕ → Course → List ℕ
turn_text i course =
    let x = next course.x in
    put_text i (drawn 64 x) course.host ++ ship_text i x ++ roll_text i ++ move_text i course.host

unfoldable pub turn_course : ℕ → Course → Course
turn_course i course = record { x = ship_draw i (next course.x); host = move_host i course.host }

-- the lines of so many times, from the i-th on
abbrev pub turns_text : ℕ → ℕ → Course → List ℕ
turns_text zero i course = []
turns_text (suc n) i course = turn_text i course ++ turns_text n (i + 1) (turn_course i course)

unfoldable pub generated : ℕ → ℕ → List ℕ
generated start size = opening ++ turns_text size 1 (record { x = start; host = 1 }) ++ ending
