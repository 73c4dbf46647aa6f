-- The keys of queues, of last pushed ids and of forms tell them apart, and from the keys of all other records.
use Rattle.std.proofs.Common.{ℕ, ◌<◌, ◌≡◌, ◌==◌, ◌^◌, Bool, true, false, List, [], ◌∷◌, ◌++◌, codes, refl, ap, sym, ◌∙◌}
use Rattle.std.specs.Prelude.{◌≢◌}
use Rattle.std.specs.Fmt.{decimal}
use Rattle.std.proofs.lemmas.Bool.{true≢false, eq-eqb}
use Rattle.std.proofs.lemmas.List.{append_cancel_left}
use Rattle.queue_storage.specs.Recorded.{IsBeside}
use Rattle.queue_storage.specs.Texts.{queue_key, last_key, forms_key}
use Rattle.queue_storage.proofs.Decimals.{decimal_apart, decimal_digits, split_slash}

pair_apart : (word : List ℕ) (p q a b : ℕ) → p < 2 ^ 32 → q < 2 ^ 32 → word ++ (decimal p ++ 47 ∷ decimal q) ≡ word ++ (decimal a ++ 47 ∷ decimal b) → (p ≡ a) × (q ≡ b)
pair_apart word p q a b m n e =
    let parts = split_slash (decimal p) (decimal q) (decimal a) (decimal b) (decimal_digits p) (decimal_digits a) (append_cancel_left word (decimal p ++ 47 ∷ decimal q) (decimal a ++ 47 ∷ decimal b) e) in
    (decimal_apart p a m parts.0, decimal_apart q b n parts.1)

pub queue_keys_apart : (p q a b : ℕ) → p < 2 ^ 32 → q < 2 ^ 32 → queue_key p q ≡ queue_key a b → (p ≡ a) × (q ≡ b)
queue_keys_apart p q a b m n e = pair_apart (codes "queue/") p q a b m n e

pub last_keys_apart : (p r a b : ℕ) → p < 2 ^ 32 → r < 2 ^ 32 → last_key p r ≡ last_key a b → (p ≡ a) × (r ≡ b)
last_keys_apart p r a b m n e = pair_apart (codes "last/") p r a b m n e

-- ---- by their first bytes

abbrev pub lead : List ℕ → ℕ
lead [] = 0
lead (x ∷ xs) = x

differ : (m n : ℕ) → (m == n) ≡ false → m ≢ n
differ m n e h = true≢false (sym (eq-eqb m n h) ∙ e)

led_apart : (xs ys : List ℕ) → (lead xs == lead ys) ≡ false → xs ≢ ys
led_apart xs ys e h = differ (lead xs) (lead ys) e (ap lead h)

pub queue_not_last : (p q a r : ℕ) → queue_key p q ≢ last_key a r
queue_not_last p q a r = led_apart (queue_key p q) (last_key a r) refl

pub last_not_queue : (a r p q : ℕ) → last_key a r ≢ queue_key p q
last_not_queue a r p q = led_apart (last_key a r) (queue_key p q) refl

pub queue_not_forms : (p q : ℕ) → queue_key p q ≢ forms_key
queue_not_forms p q = led_apart (queue_key p q) forms_key refl

pub forms_not_queue : (p q : ℕ) → forms_key ≢ queue_key p q
forms_not_queue p q = led_apart forms_key (queue_key p q) refl

pub last_not_forms : (p r : ℕ) → last_key p r ≢ forms_key
last_not_forms p r = led_apart (last_key p r) forms_key refl

pub forms_not_last : (p r : ℕ) → forms_key ≢ last_key p r
forms_not_last p r = led_apart forms_key (last_key p r) refl

-- ---- the keys of other records

-- one that begins with none of q, l and f
pub led_beside : (key : List ℕ) → (lead key == 113) ≡ false → (lead key == 108) ≡ false → (lead key == 102) ≡ false → IsBeside key
led_beside key a b c = record {
  queue = λ p q. led_apart key (queue_key p q) a;
  last = λ p r. led_apart key (last_key p r) b;
  forms = led_apart key forms_key c;
}

pub table_beside : (t : List ℕ) → IsBeside (codes "table/" ++ t)
table_beside t = led_beside (codes "table/" ++ t) refl refl refl

pub region_beside : (t : List ℕ) → IsBeside (codes "region/" ++ t)
region_beside t = led_beside (codes "region/" ++ t) refl refl refl

pub barriers_beside : (t : List ℕ) → IsBeside (codes "barriers/" ++ t)
barriers_beside t = led_beside (codes "barriers/" ++ t) refl refl refl

pub server_beside : (t : List ℕ) → IsBeside (codes "server/" ++ t)
server_beside t = led_beside (codes "server/" ++ t) refl refl refl

pub peer_beside : (t : List ℕ) → IsBeside (codes "peer/" ++ t)
peer_beside t = led_beside (codes "peer/" ++ t) refl refl refl
