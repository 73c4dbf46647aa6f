-- The status has no number but whole ones.
use Rattle.std.proofs.Common.{◌≡◌, refl, ℕ, List, [], ◌∷◌, false}
use Rattle.rep_types.specs.declared.view.StatusLine.{StatusLine}
use Rattle.serde_json.specs.Written.{has_float, items_have_float}
use Rattle.report_text.specs.StatusLine.{numbers_data, status_data}

numbers_are_whole : (ns : List ℕ) → items_have_float (numbers_data ns) ≡ false
numbers_are_whole [] = refl
numbers_are_whole (n ∷ ns) = numbers_are_whole ns

pub status_is_whole : (s : StatusLine) → has_float (status_data s) ≡ false
status_is_whole s = rw (numbers_are_whole s.a.live, numbers_are_whole s.b.live) refl
