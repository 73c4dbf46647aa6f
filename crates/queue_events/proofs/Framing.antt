-- Where the frames of commits stand in the files of logs.
use Rattle.std.proofs.Common.{ℕ, ◌≤◌, ◌≡◌, ◌==◌, ◌&&◌, inl, inr, Bool, true, false, List, [], ◌∷◌, ◌++◌, map, drop, take, length, Some, refl, ap, sym, ◌∙◌, subst, arith, append_assoc}
use Rattle.std.specs.Prelude.{All}
use Rattle.std.specs.List.{AllByRecursion}
use Rattle.std.proofs.lemmas.Bool.{cond-true, cases_lt}
use Rattle.std.proofs.lemmas.Option.{same_Some}
use Rattle.std.proofs.lemmas.List.Elements.{filter-append, All-nil, All-cons}
use Rattle.std.proofs.Math.Seq.{drop-append_seam, take-append_seam}
use Rattle.rep_types.specs.declared.entry.Entry.{Entry}
use Rattle.rep_vault.specs.Contents.{File, Contents}
use Rattle.rep_vault.specs.Calls.{part}
use Rattle.wal_entry.specs.Framed.{HasFrame}
use Rattle.wal_entry.specs.Spelling.{spelling}
use Rattle.wal_entry.proofs.Verdicts.{length-spelling, spellings_apart}
use Rattle.wal_roll.specs.Log.{wal, log_name, frames}
use Rattle.region_server.specs.Host.{HostValue}
use Rattle.rep_model.specs.Commits.{log_commits}
use Rattle.rep_model.specs.Frames.{commits_length}
use Rattle.rep_model.specs.declared.machine.Commit.{Commit}
use Rattle.rep_model.specs.declared.machine.Server.{Server}
use Rattle.cluster_core.specs.declared.parts.Kept.{Kept}
use Rattle.cluster_core.specs.Entries.{entry_of, log_entries, server_commits}
use Rattle.cluster_core.specs.Logs.{Current, LogsStand}
use Rattle.cluster_core.specs.Memory.{kept_of, kept_after}
use Rattle.cluster_core.proofs.Lookups.{frames_length}
use Rattle.cluster_core.proofs.Shelving.{filter_within, in_log}
use Rattle.queue_events.specs.Reading.{IsFrameAt, HasFrameAt, AreFramesAt}

-- ---- the files

-- a file begins with the frames of the log's commits
pub record HoldsLog (c : Contents) (s l : ℕ) (commits : List Commit) : Type 0 where
  pub file : File
  pub there : c.files wal (log_name s l) ≡ Some file
  pub rest : List ℕ
  pub bytes : file.bytes ≡ frames (log_entries s l commits) ++ rest

current_holds : (c : Contents) (commits : List Commit) (h : HostValue) (srv : Server) (sealed : Bool) → Current c commits h srv sealed → HoldsLog c srv.number srv.log commits
current_holds c commits h srv false k = let f = k.writer.file in record { file = f.file; there = f.there; rest = f.holds.rest; bytes = f.holds.bytes }
current_holds c commits h srv true k = let f = k.3 in record { file = f.file; there = f.there; rest = f.part; bytes = f.bytes }

pub log_holds : (c : Contents) (commits : List Commit) (h : HostValue) (srv : Server) (l : ℕ) → LogsStand c commits h srv → srv.lowest ≤ l → l ≤ srv.log → HoldsLog c srv.number l commits
log_holds c commits h srv l k low high = elim (cases_lt l srv.log) [
  | inl less ↦ let f = k.earlier l low less in record { file = f.file; there = f.there; rest = f.part; bytes = f.bytes }
  | inr more ↦ let same : srv.log ≡ l = omega (arith, more, high) in subst (λ n. HoldsLog c srv.number n commits) same (current_holds c commits h srv srv.sealed k.current)
]

-- ---- one commit's frame

frames_split : (a : List Commit) (x : Commit) (b : List Commit) → frames (map entry_of (a ++ x ∷ b)) ≡ frames (map entry_of a) ++ (spelling (entry_of x) ++ frames (map entry_of b))
frames_split [] x b = refl
frames_split (y ∷ a) x b = ap (λ (w : List ℕ). spelling (entry_of y) ++ w) (frames_split a x b) ∙ sym (append_assoc (spelling (entry_of y)) (frames (map entry_of a)) (spelling (entry_of x) ++ frames (map entry_of b)))

log_split : (s l : ℕ) (a : List Commit) (x : Commit) (b : List Commit) → x.server ≡ s → x.log ≡ l → log_commits s l (a ++ x ∷ b) ≡ log_commits s l a ++ x ∷ log_commits s l b
log_split s l a x b e f =
    filter-append (λ (y : Commit). (y.server == s) && (y.log == l)) a (x ∷ b)
    ∙ ap (λ (w : List Commit). log_commits s l a ++ w) (cond-true ((x.server == s) && (x.log == l)) (x ∷ log_commits s l b) (log_commits s l b) (in_log s l x (e, f)))

part_is : (a b r all : List ℕ) (from size : ℕ) → all ≡ a ++ (b ++ r) → length a ≡ from → length b ≡ size → take size (drop from all) ≡ b
part_is a b r all from size e f g =
    ap (λ (w : List ℕ). take size (drop from w)) e
    ∙ (ap (λ n. take size (drop n (a ++ (b ++ r)))) (sym f)
    ∙ (ap (take size) (drop-append_seam a (b ++ r))
    ∙ (ap (λ n. take n (b ++ r)) (sym g) ∙ take-append_seam b r)))

pub frame_at : (c : Contents) (s : ℕ) (commits before : List Commit) (x : Commit) (after : List Commit) → server_commits s commits ≡ before ++ x ∷ after → x.server ≡ s → HasFrame (entry_of x) → HoldsLog c s x.log commits
    → IsFrameAt c s (kept_of before x) (entry_of x)
frame_at c s commits before x after split own framed k =
    let a : List Commit = log_commits s x.log before in
    let b : List Commit = log_commits s x.log after in
    let of_log : log_commits s x.log commits ≡ a ++ x ∷ b =
    sym (filter_within (λ (y : Commit). (y.server == s) && (y.log == x.log)) (λ (y : Commit). y.server == s) commits (λ y h. first (y.server == s) (y.log == x.log) h))
    ∙ (ap (log_commits s x.log) split ∙ log_split s x.log before x after own refl) in
    let bytes : k.file.bytes ≡ frames (map entry_of a) ++ (spelling (entry_of x) ++ (frames (map entry_of b) ++ k.rest)) =
    k.bytes ∙ (ap (λ (w : List Commit). frames (map entry_of w) ++ k.rest) of_log
    ∙ (ap (λ (w : List ℕ). w ++ k.rest) (frames_split a x b)
    ∙ (append_assoc (frames (map entry_of a)) (spelling (entry_of x) ++ frames (map entry_of b)) k.rest
    ∙ ap (λ (w : List ℕ). frames (map entry_of a) ++ w) (append_assoc (spelling (entry_of x)) (frames (map entry_of b)) k.rest)))) in
    let from : length (frames (map entry_of a)) ≡ commits_length (log_commits x.server x.log before) = frames_length a ∙ ap (λ n. commits_length (log_commits n x.log before)) (sym own) in
    record {
      file = k.file;
      there = k.there;
      framed = framed;
      bytes = part_is (frames (map entry_of a)) (spelling (entry_of x)) (frames (map entry_of b) ++ k.rest) k.file.bytes _ _ bytes from (length-spelling (entry_of x));
    }
  where
    first : (p q : Bool) → (p && q) ≡ true → p ≡ true
    first true q h = refl
    first false q h = h

-- what a commit of the server needs for it
pub record Stored (c : Contents) (s : ℕ) (commits : List Commit) (x : Commit) : Type 0 where
  pub own : x.server ≡ s
  pub framed : HasFrame (entry_of x)
  pub holds : HoldsLog c s x.log commits

pub frames_at : (c : Contents) (s : ℕ) (commits before xs after : List Commit) → server_commits s commits ≡ before ++ (xs ++ after) → AllByRecursion (Stored c s commits) xs → AreFramesAt c s (kept_after before xs) (map entry_of xs)
frames_at c s commits before [] after split a = tt
frames_at c s commits before (x ∷ xs) after split a = (
  frame_at c s commits before x (xs ++ after) split a.0.own a.0.framed a.0.holds,
  frames_at c s commits (before ++ x ∷ []) xs after (split ∙ sym (append_assoc before (x ∷ []) (xs ++ after))) a.1,
)

-- ---- what stands at a place is one entry

one_there : (c : Contents) (s : ℕ) (k : Kept) (e f : Entry) → IsFrameAt c s k e → IsFrameAt c s k f → e ≡ f
one_there c s k e f a b =
    let same : a.file ≡ b.file = same_Some a.file b.file (sym a.there ∙ b.there) in
    let bytes : spelling e ≡ spelling f = sym a.bytes ∙ (ap (λ (x : File). part k.offset k.length x) same ∙ b.bytes) in
    (spellings_apart e f [] [] a.framed b.framed (ap (λ (w : List ℕ). w ++ []) bytes)).0

pub one_list : (c : Contents) (s : ℕ) (ks : List Kept) (es fs : List Entry) → AreFramesAt c s ks es → AreFramesAt c s ks fs → es ≡ fs
one_list c s [] [] [] a b = refl
one_list c s [] (e ∷ es) fs a b = absurd a
one_list c s [] [] (f ∷ fs) a b = absurd b
one_list c s (k ∷ ks) [] fs a b = absurd a
one_list c s (k ∷ ks) (e ∷ es) [] a b = absurd b
one_list c s (k ∷ ks) (e ∷ es) (f ∷ fs) a b = (λ i. one_there c s k e f a.0 b.0 i ∷ one_list c s ks es fs a.1 b.1 i)

pub have_frames : (c : Contents) (s : ℕ) (ks : List Kept) (es : List Entry) → AreFramesAt c s ks es → All (HasFrameAt c s) ks
have_frames c s [] es a = All-nil (HasFrameAt c s)
have_frames c s (k ∷ ks) [] a = absurd a
have_frames c s (k ∷ ks) (e ∷ es) a = All-cons (HasFrameAt c s) k ks (e, a.0) (have_frames c s ks es a.1)
