-- What holds of each store in memory.
use Rattle.std.specs.Prelude.{◌≡◌, ◌≤◌, ◌<◌, ◌^◌, ℕ, true, false, List, length, Option, Some, None, is_some, refl}
use Rattle.std.proofs.Common.{ap, subst, arith, true≢false}
use Rattle.std.specs.BTreeMap.{get_by_text}
use Rattle.std.specs.Option.{option_map}
use Rattle.rep_vault.specs.declared.folder.Folder.{Folder}
use Rattle.rep_vault.specs.declared.file.MemFile.{MemFile}
use Rattle.rep_vault.specs.declared.kind.Kind.{Kind}
use Rattle.rep_vault.specs.declared.plans.Plans.{Plans}
use Rattle.rep_vault.specs.declared.memory.MemVault.{MemVault}
use Rattle.rep_vault.specs.Contents.{File, IsSound}
use Rattle.rep_vault.specs.Tallies.{IsBounded, total}
use Rattle.rep_vault.specs.Plans.{of_kind, faults_of}
use Rattle.rep_vault.specs.Stored.{shown}
use Rattle.rep_vault.specs.Folders.{file_at}
use Rattle.rep_vault.specs.Memory.{contents_of, contents_in, tally_of, tally_in}

pub none : {X : Type 0} (o : Option X) → is_some o ≡ false → o ≡ None
none None e = refl
none (Some x) e = absurd (true≢false e)

-- what holds of each file in memory
record IsWhole (x : File) : Type 0 where
  synced : x.synced ≤ length x.bytes
  sealed : x.sealed ≡ true → x.synced ≡ length x.bytes

stored : (o : Option MemFile) (x : File) → option_map shown o ≡ Some x → IsWhole x
stored None x e = cc
stored (Some y) x e = let same : shown y ≡ x = cc in subst IsWhole same (record { synced = y.within; sealed = y.whole })

found : (o : Option Folder) (n : List ℕ) (x : File) → file_at o n ≡ Some x → IsWhole x
found None n x e = cc
found (Some d) n x e = stored (get_by_text d.files n) x e

pub sound : (v : MemVault) → IsSound (contents_of v)
unfolding contents_in
sound v = record {
  housed = λ f n gone. ap (λ o. file_at o n) (none (get_by_text v.folders f) gone);
  synced = λ f n x e. (found (get_by_text v.folders f) n x e).synced;
  sealed = λ f n x e. (found (get_by_text v.folders f) n x e).sealed;
}

few : (x : Kind) → x.faults ≤ x.planned
few x = omega arith

pub fit : (p : Plans) → total (faults_of p) < 2 ^ 36
fit p = omega arith

pub bounded : (v : MemVault) → IsBounded (tally_of v)
unfolding tally_in
bounded v = record { fits = omega (arith, fit v.plans); planned = λ k. few (of_kind k v.plans) }
