-- The logs of a record, one more at a time.
use Rattle.std.proofs.Common.{ℕ, suc, ◌+◌, ◌-◌, ◌≤◌, ◌<◌, ◌≡◌, List, ◌∷◌, ◌++◌, ap, sym, ◌∙◌, append_assoc, arith}
use Rattle.std.specs.Fmt.{decimal}
use Rattle.queue_storage.specs.Texts.{more_logs, logs_text}

counted : (first before : ℕ) → first ≤ before → more_logs first (before + 1 - first) ≡ more_logs first (before - first) ++ 44 ∷ decimal (before + 1)
counted first before h =
    let next : before + 1 - first ≡ suc (before - first) = omega (arith, h) in
    let last : first + suc (before - first) ≡ before + 1 = omega (arith, h) in
    ap (more_logs first) next ∙ ap (λ n. more_logs first (before - first) ++ 44 ∷ decimal n) last

pub logs_more : (out items text : List ℕ) (first before : ℕ) → first ≤ before → items ≡ out ++ (decimal first ++ more_logs first (before - first)) → text ≡ items ++ 44 ∷ decimal (before + 1)
    → text ≡ out ++ (decimal first ++ more_logs first (before + 1 - first))
logs_more out items text first before h e g =
    let end : List ℕ = 44 ∷ decimal (before + 1) in
    g ∙ ap (λ t. t ++ end) e ∙ append_assoc out (decimal first ++ more_logs first (before - first)) end
    ∙ ap (λ t. out ++ t) (append_assoc (decimal first) (more_logs first (before - first)) end ∙ ap (λ t. decimal first ++ t) (sym (counted first before h)))

pub logs_all : (out items : List ℕ) (first last before : ℕ) → first ≤ before → (first ≤ last → before ≤ last) → last ≤ before → (last < first → before ≡ first) → items ≡ out ++ (decimal first ++ more_logs first (before - first))
    → items ≡ out ++ logs_text first last
logs_all out items first last before h within past none e =
    let same : before - first ≡ last - first = grind (arith, h, within, past, none) in
    e ∙ ap (λ n. out ++ (decimal first ++ more_logs first n)) same
