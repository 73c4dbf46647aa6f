-- Numbers of 1, 2, 4 and 8 bytes: bytes that are read as a number are its bytes.
use Rattle.std.proofs.Common.{◌≡◌, ℕ, List, [], ◌∷◌, length, ap, arith}
use Rattle.std.proofs.lemmas.Nat.{be_bytes_2, be_bytes_4, be_bytes_8}
use Rattle.byteorder.specs.Endian.{big_number, big_bytes}
use Rattle.wal_entry.proofs.Places.{IsBytes}

-- so many bytes are the bytes of the number that they are read as
pub record IsSize (size : ℕ) : Type 0 where
  pub back : (bytes : List ℕ) → length bytes ≡ size → IsBytes bytes → big_bytes size (big_number size bytes) ≡ bytes

back_1 : (bytes : List ℕ) → length bytes ≡ 1 → IsBytes bytes → big_bytes 1 (big_number 1 bytes) ≡ bytes
back_1 [] len fits = absurd (omega arith)
back_1 (b ∷ []) len fits = ap (λ (n : ℕ). n ∷ []) (omega (arith, fits 0))
back_1 (b ∷ c ∷ bytes) len fits = absurd (omega arith)

pub size_1 : IsSize 1
size_1 = record { back = back_1 }

pub size_2 : IsSize 2
size_2 = record { back = λ bytes len fits. be_bytes_2 bytes _ len fits (omega arith) }

pub size_4 : IsSize 4
size_4 = record { back = λ bytes len fits. be_bytes_4 bytes _ len fits (omega arith) }

pub size_8 : IsSize 8
size_8 = record { back = λ bytes len fits. be_bytes_8 bytes _ len fits (omega arith) }
