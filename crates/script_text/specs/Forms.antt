-- The forms of single words.
use Rattle.std.specs.Prelude.{ℕ, ◌+◌, ◌-◌, ◌*◌, ◌==◌, ◌&&◌, nat_le, Bool, true, false, List, [], ◌∷◌, codes, Option, Some, None, Result, Ok, Err, if◌then◌else◌}
use Rattle.std.specs.Option.{is_none, ok_or}
use Rattle.std.specs.Str.{bytes_eq}
use Rattle.rep_types.specs.Text.{name_refusal, key_refusal}
use Rattle.rep_types.specs.declared.ids.Cluster.{Cluster}
use Rattle.rep_types.specs.declared.ids.Cluster.TheVariants.{A, B}
use Rattle.rep_types.specs.declared.state.Call.{Call}
use Rattle.rep_types.specs.declared.state.Call.TheVariants as call
use Rattle.rep_types.specs.declared.state.Kind.{Kind}
use Rattle.rep_types.specs.declared.state.Kind.TheVariants as kind
use Rattle.rep_types.specs.declared.state.SyncState.{SyncState}
use Rattle.rep_types.specs.declared.state.SyncState.TheVariants as state
use Rattle.script_text.specs.declared.rule.Rule.{Rule}
use Rattle.script_text.specs.declared.rule.Rule.TheVariants as rule

abbrev pub is_digit : ℕ → Bool
is_digit b = nat_le 48 b && nat_le b 57

-- the number that digits before these and these spell
abbrev pub digits : ℕ → List ℕ → Option ℕ
digits n [] = Some n
digits n (b ∷ rest) = if is_digit b then digits (n * 10 + (b - 48)) rest else None

-- no digit, or a leading zero
abbrev pub is_padded : List ℕ → Bool
is_padded [] = true
is_padded (b ∷ []) = false
is_padded (b ∷ c ∷ rest) = b == 48

abbrev pub within : ℕ → ℕ → Option ℕ → Option ℕ
within low high None = None
within low high (Some n) = if nat_le low n && nat_le n high then Some n else None

-- a number, decimal without leading zeros
unfoldable pub number_of : ℕ → ℕ → List ℕ → Option ℕ
number_of low high word = if is_padded word then None else within low high (digits 0 word)

unfoldable pub number_word : ℕ → ℕ → List ℕ → Result ℕ Rule
number_word low high word = ok_or (number_of low high word) rule.Number

unfoldable pub cluster_word : List ℕ → Result Cluster Rule
cluster_word word =
    if bytes_eq word (codes "a") then Ok A else
    (if bytes_eq word (codes "b") then Ok B else Err rule.Cluster)

-- a name or a key, as they are
unfoldable pub name_of : List ℕ → Option (List ℕ)
name_of word = if is_none (name_refusal word) then Some word else None

unfoldable pub name_word : List ℕ → Result (List ℕ) Rule
name_word word = ok_or (name_of word) rule.Name

unfoldable pub key_word : List ℕ → Result (List ℕ) Rule
key_word word = if is_none (key_refusal word) then Ok word else Err rule.Name

unfoldable pub kind_word : List ℕ → Result Kind Rule
kind_word word =
    if bytes_eq word (codes "plain") then Ok kind.Plain else
    (if bytes_eq word (codes "serial") then Ok kind.Serial else
    (if bytes_eq word (codes "sync") then Ok kind.Synchronous else Err rule.Kind))

-- a state that may be changed to
unfoldable pub state_word : List ℕ → Result SyncState Rule
state_word word =
    if bytes_eq word (codes "active") then Ok state.Active else
    (if bytes_eq word (codes "downgrade") then Ok state.Downgrade else
    (if bytes_eq word (codes "standby") then Ok state.Standby else Err rule.Kind))

unfoldable pub call_word : List ℕ → Result Call Rule
call_word word =
    if bytes_eq word (codes "create") then Ok call.Create else
    (if bytes_eq word (codes "append") then Ok call.Append else
    (if bytes_eq word (codes "sync") then Ok call.Sync else
    (if bytes_eq word (codes "seal") then Ok call.Seal else
    (if bytes_eq word (codes "read") then Ok call.Read else
    (if bytes_eq word (codes "make") then Ok call.Make else
    (if bytes_eq word (codes "rename") then Ok call.Rename else
    (if bytes_eq word (codes "remove") then Ok call.Remove else
    (if bytes_eq word (codes "list") then Ok call.List else
    (if bytes_eq word (codes "put") then Ok call.Put else Err rule.Kind)))))))))
