-- What the words behind a command's first word mean: each form of a command, its words from the left.
use Rattle.std.specs.Prelude.{ℕ, List, codes, Result, Ok, Err, if◌then◌else◌}
use Rattle.rep_types.specs.declared.ids.Cluster.{Cluster}
use Rattle.rep_types.specs.declared.event.Event.TheVariants as event
use Rattle.rep_types.specs.declared.state.Kind.{Kind}
use Rattle.script_text.specs.declared.command.Command.{Command}
use Rattle.script_text.specs.declared.command.Command.TheVariants as command
use Rattle.script_text.specs.declared.head.OnCluster.{OnCluster}
use Rattle.script_text.specs.declared.head.OnServer.{OnServer}
use Rattle.script_text.specs.declared.head.OnRegion.{OnRegion}
use Rattle.script_text.specs.declared.head.OnPeer.{OnPeer}
use Rattle.script_text.specs.declared.head.OnQueue.{OnQueue}
use Rattle.script_text.specs.declared.head.OnPlace.{OnPlace}
use Rattle.script_text.specs.declared.head.OnFlight.{OnFlight}
use Rattle.script_text.specs.declared.head.Alone.{Alone}
use Rattle.script_text.specs.declared.rule.Rule.{Rule}
use Rattle.script_text.specs.declared.rule.Rule.TheVariants as rule
use Rattle.script_text.specs.Forms.{number_word, cluster_word, name_word, key_word, kind_word, state_word, call_word}
use Rattle.script_text.specs.Heads.{is_performed_kind}
use Rattle.script_text.specs.Lists.{specs_word, tables_word}
use Rattle.script_text.specs.Makings.{cluster_command, server_command, region_command, peer_command, queue_command, place_command, flight_command, alone_command}
use Rattle.script_text.specs.Steps.{◌>>=◌}
use Rattle.script_text.specs.Words.{has_word, one_word, two_words, three_words, four_words}

-- the words of a command that begins with a cluster
unfoldable pub cluster_alone : List (List ℕ) → Result Cluster Rule
cluster_alone args = one_word args >>= cluster_word

unfoldable pub cluster_and_one : List (List ℕ) → Result (Cluster × List ℕ) Rule
cluster_and_one args = two_words args >>= λ (c, x). cluster_word c >>= λ cluster. Ok (cluster, x)

unfoldable pub cluster_and_two : List (List ℕ) → Result (Cluster × List ℕ × List ℕ) Rule
cluster_and_two args = three_words args >>= λ (c, x, y). cluster_word c >>= λ cluster. Ok (cluster, x, y)

unfoldable pub cluster_and_three : List (List ℕ) → Result (Cluster × List ℕ × List ℕ × List ℕ) Rule
cluster_and_three args = four_words args >>= λ (c, x, y, z). cluster_word c >>= λ cluster. Ok (cluster, x, y, z)

-- four words, of which the last may be left out and is then this one
abbrev pub or_with : List ℕ → Result (List ℕ × List ℕ × List ℕ) Rule → Result (List ℕ × List ℕ × List ℕ × List ℕ) Rule → Result (List ℕ × List ℕ × List ℕ × List ℕ) Rule
or_with last (Ok (a, b, c)) all = Ok (a, b, c, last)
or_with last (Err e) all = all

unfoldable pub some_words : List ℕ → List (List ℕ) → Result (List ℕ × List ℕ × List ℕ × List ℕ) Rule
some_words last args = or_with last (three_words args) (four_words args)

unfoldable pub cluster_and_some : List ℕ → List (List ℕ) → Result (Cluster × List ℕ × List ℕ × List ℕ) Rule
cluster_and_some last args = some_words last args >>= λ (c, x, y, z). cluster_word c >>= λ cluster. Ok (cluster, x, y, z)

unfoldable pub alone : Alone → List (List ℕ) → Result Command Rule
alone word args = if has_word args then Err rule.Words else Ok (alone_command word)

unfoldable pub on_cluster : OnCluster → List (List ℕ) → Result Command Rule
on_cluster word args = cluster_alone args >>= λ c. Ok (cluster_command word c)

unfoldable pub on_server : OnServer → List (List ℕ) → Result Command Rule
on_server word args = cluster_and_one args >>= λ (c, x). number_word 1 64 x >>= λ s. Ok (server_command word c s)

unfoldable pub on_region : OnRegion → List (List ℕ) → Result Command Rule
on_region word args = cluster_and_one args >>= λ (c, x). number_word 1 4096 x >>= λ r. Ok (region_command word c r)

unfoldable pub on_peer : OnPeer → List (List ℕ) → Result Command Rule
on_peer word args = cluster_and_one args >>= λ (c, x). number_word 1 4 x >>= λ p. Ok (peer_command word c p)

unfoldable pub on_queue : OnQueue → List (List ℕ) → Result Command Rule
on_queue word args = cluster_and_two args >>= λ (c, x, y). number_word 1 4 x >>= λ p. number_word 1 64 y >>= λ s. Ok (queue_command word c p s)

unfoldable pub on_place : OnPlace → List (List ℕ) → Result Command Rule
on_place word args = cluster_and_two args >>= λ (c, x, y). number_word 1 4096 x >>= λ r. number_word 1 64 y >>= λ s. Ok (place_command word c r s)

unfoldable pub on_flight : OnFlight → List (List ℕ) → Result Command Rule
on_flight word args = one_word args >>= λ x. number_word 1 4294967295 x >>= λ f. Ok (flight_command word f)

-- a `send` without its number sends at most 25 entries
unfoldable pub send : List (List ℕ) → Result Command Rule
send args =
    cluster_and_some (codes "25") args >>= λ (c, x, y, z).
    number_word 1 4 x >>= λ p. number_word 1 64 y >>= λ s. number_word 1 1000 z >>= λ n. Ok (command.Single (event.Send c p s n))

unfoldable pub merge : List (List ℕ) → Result Command Rule
merge args = cluster_and_two args >>= λ (c, x, y). number_word 1 4096 x >>= λ low. number_word 1 4096 y >>= λ high. Ok (command.Single (event.Merge c low high))

unfoldable pub claim : List (List ℕ) → Result Command Rule
claim args =
    cluster_and_three args >>= λ (c, x, y, z).
    number_word 1 64 x >>= λ by. number_word 1 64 y >>= λ s. number_word 1 4 z >>= λ p. Ok (command.Single (event.Claim c by s p))

unfoldable pub transit : List (List ℕ) → Result Command Rule
transit args = cluster_and_one args >>= λ (c, x). state_word x >>= λ state. Ok (command.Single (event.TransitBegin c state))

-- a `fail` without its bytes leaves none
unfoldable pub fail : List (List ℕ) → Result Command Rule
fail args =
    cluster_and_some (codes "0") args >>= λ (c, x, y, z).
    call_word x >>= λ call. number_word 1 1000000 y >>= λ nth. number_word 0 65536 z >>= λ bytes. Ok (command.Fail c call nth bytes)

unfoldable pub keep : List (List ℕ) → Result Command Rule
keep args = cluster_and_one args >>= λ (c, x). number_word 0 65536 x >>= λ bytes. Ok (command.Keep c bytes)

unfoldable pub table : List (List ℕ) → Result Command Rule
table args = cluster_and_two args >>= λ (c, x, y). name_word x >>= λ t. specs_word y >>= λ specs. Ok (command.Single (event.Table c t specs))

unfoldable pub get : List (List ℕ) → Result Command Rule
get args = cluster_and_two args >>= λ (c, x, y). name_word x >>= λ t. key_word y >>= λ row. Ok (command.Single (event.Get c t row))

unfoldable pub show : List (List ℕ) → Result Command Rule
show args = cluster_and_one args >>= λ (c, x). name_word x >>= λ t. Ok (command.Single (event.Show c t))

unfoldable pub split : List (List ℕ) → Result Command Rule
split args = cluster_and_two args >>= λ (c, x, y). number_word 1 4096 x >>= λ r. key_word y >>= λ key. Ok (command.Single (event.Split c r key))

-- a kind of which no peer is added yet is an unknown word
unfoldable pub performed_kind : List ℕ → Result Kind Rule
performed_kind word = kind_word word >>= λ kind. if is_performed_kind kind then Ok kind else Err rule.Words

unfoldable pub peer : List (List ℕ) → Result Command Rule
peer args =
    cluster_and_three args >>= λ (c, x, y, z).
    number_word 1 4 x >>= λ p. performed_kind y >>= λ kind. tables_word z >>= λ tables. Ok (command.Single (event.Peer c p kind tables))
