-- A reader or a writer of std whose faults are counted.
use Rattle.std.specs.Prelude.{ℕ, Bool, true, ◌==◌, ◌&&◌, nat_lt, Result, Ok, Err}
use Rattle.rep_io.specs.declared.faults.Faults.{Faults}
use Rattle.rep_io.specs.declared.traits.WriteFailed.{WriteFailed}

pub record Counted (Inner : Type 0) : Type 0 where
  pub inner : Inner
  pub faults : Faults

-- a write of so many bytes failed, or took nothing of some
abbrev pub is_fault : ℕ → Result ℕ WriteFailed → Bool
is_fault len (Ok n) = n == 0 && nat_lt 0 len
is_fault len (Err e) = true
