-- Numbers of tickets in ascending order.
use Rattle.std.specs.Prelude.{ℕ, nat_lt, Bool, List, [], ◌∷◌, if◌then◌else◌}

abbrev pub is_above : ℕ → ℕ → Bool
is_above k x = nat_lt k x

-- one more, before the first that is greater
abbrev pub put_in : List ℕ → ℕ → List ℕ
put_in [] k = k ∷ []
put_in (x ∷ xs) k = if is_above k x then k ∷ x ∷ xs else x ∷ put_in xs k
