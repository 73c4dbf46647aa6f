-- Lists added at the end, one after the other.
use Rattle.std.proofs.Common.{◌≡◌, ℕ, List, ◌++◌, append_assoc}

pub three : (out o1 o2 o3 a b c : List ℕ) → o1 ≡ out ++ a → o2 ≡ o1 ++ b → o3 ≡ o2 ++ c → o3 ≡ out ++ (a ++ (b ++ c))
three out o1 o2 o3 a b c e1 e2 e3 = rw (e3, e2, e1) (simp append_assoc)

pub six : (out o1 o2 o3 o4 o5 o6 a b c d e f : List ℕ) → o1 ≡ out ++ a → o2 ≡ o1 ++ b → o3 ≡ o2 ++ c → o4 ≡ o3 ++ d → o5 ≡ o4 ++ e → o6 ≡ o5 ++ f
    → o6 ≡ out ++ (a ++ b ++ (c ++ (d ++ (e ++ f))))
six out o1 o2 o3 o4 o5 o6 a b c d e f e1 e2 e3 e4 e5 e6 = rw (e6, e5, e4, e3, e2, e1) (simp append_assoc)
