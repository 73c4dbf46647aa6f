-- Each log of a server that stands as a file holds whole frames, and at most a proper prefix of one more.
use Rattle.std.proofs.Common.{ℕ, ◌<◌, ◌≤◌, ◌≡◌, inl, inr, not, Bool, true, false, List, [], ◌∷◌, ◌++◌, take, length, refl, ap, sym, ◌∙◌, subst, arith, append_assoc, append-nil}
use Rattle.std.specs.Prelude.{All}
use Rattle.std.specs.List.{AllByRecursion}
use Rattle.std.proofs.lemmas.Bool.{cases_lt}
use Rattle.std.proofs.lemmas.Grind.{flat_map-append}
use Rattle.std.proofs.lemmas.List.{take_all}
use Rattle.std.proofs.lemmas.List.Elements.{All-nil, All-cons}
use Rattle.std.proofs.Math.Seq.{take-nil}
use Rattle.rep_types.specs.declared.entry.Entry.{Entry}
use Rattle.rep_vault.specs.Contents.{Contents}
use Rattle.wal_entry.specs.Frame.{verdict, frame_length}
use Rattle.wal_entry.specs.Framed.{HasFrame}
use Rattle.wal_entry.specs.Judging.{IsCut, standing}
use Rattle.wal_entry.specs.Spelling.{spelling}
use Rattle.wal_entry.proofs.Pieces.{prefix_is_cut}
use Rattle.wal_entry.proofs.Verdicts.{length-spelling}
use Rattle.wal_roll.specs.Log.{wal, log_name, frames, frame_size, Tail}
use Rattle.log_split.specs.Held.{HoldsEntries}
use Rattle.log_split.specs.Logs.{LogHolds}
use Rattle.region_server.specs.Host.{HostValue}
use Rattle.rep_model.specs.Commits.{log_commits}
use Rattle.rep_model.specs.declared.machine.Commit.{Commit}
use Rattle.rep_model.specs.declared.machine.Server.{Server}
use Rattle.rep_model.specs.declared.machine.Side.{Side}
use Rattle.rep_laws.proofs.Lists.{All_append, All_left, All_filtered, All_mapped}
use Rattle.cluster_core.specs.declared.parts.Station.{Station}
use Rattle.cluster_core.specs.Entries.{entry_of, log_entries, pending_entries}
use Rattle.cluster_core.specs.Logs.{IsTail, IsSealedLog, Current}
use Rattle.cluster_core.specs.Stands.{StationStands}

-- ---- bytes that are cut short

nothing_is_cut : IsCut (verdict [])
unfolding verdict frame_length standing
nothing_is_cut = (4, refl)

part_is_cut : (e : Entry) (kept : ℕ) → HasFrame e → kept < frame_size e → IsCut (verdict (take kept (spelling e)))
part_is_cut e kept framed short = prefix_is_cut e kept framed (subst (λ n. kept < n) (length-spelling e) short)

cut_so : (a b : List ℕ) → a ≡ b → IsCut (verdict b) → IsCut (verdict a)
cut_so a b e h = subst (λ (w : List ℕ). IsCut (verdict w)) (sym e) h

tail_is_cut : (part : List ℕ) → IsTail part → IsCut (verdict part)
tail_is_cut part (inl e) = cut_so part [] e nothing_is_cut
tail_is_cut part (inr t) = cut_so part (take t.kept (spelling t.frame)) t.bytes (part_is_cut t.frame t.kept t.framed t.short)

-- ---- frames

pub each_of : {X : Type 0} (P : X → Type 0) (xs : List X) → AllByRecursion P xs → All P xs
each_of P [] a = All-nil P
each_of P (x ∷ xs) a = All-cons P x xs a.0 (each_of P xs a.1)

framed_hold : (es : List Entry) (part bytes : List ℕ) → AllByRecursion HasFrame es → bytes ≡ frames es ++ part → IsCut (verdict part) → HoldsEntries bytes es
framed_hold es part bytes framed whole cut = record { rest = part; frames = record { framed = each_of HasFrame es framed; whole = whole }; short = cut }

-- bytes that hold some entries
abbrev HoldSome : List ℕ → Type 0
HoldSome bytes = (es : List Entry) × HoldsEntries bytes es

frames_more : (a b : List Entry) (rest : List ℕ) → frames a ++ (frames b ++ rest) ≡ frames (a ++ b) ++ rest
frames_more a b rest = sym (append_assoc (frames a) (frames b) rest) ∙ ap (λ (w : List ℕ). w ++ rest) (sym (flat_map-append spelling a b))

-- the frames of pending entries, of which the last may be cut
torn_holds : (committed front back : List Entry) (kept : ℕ) (bytes : List ℕ) → AllByRecursion HasFrame committed → AllByRecursion HasFrame (front ++ back) → length back ≤ 1
    → bytes ≡ frames committed ++ (frames front ++ take kept (frames back)) → HoldSome bytes
torn_holds committed front [] kept bytes a b one whole =
    let first : AllByRecursion HasFrame front = All_left HasFrame front [] b in (
      committed ++ front,
      framed_hold (committed ++ front) (take kept []) bytes (All_append HasFrame committed front a first) (whole ∙ frames_more committed front (take kept []))
          (cut_so (take kept []) [] (take-nil kept) nothing_is_cut),
    )
torn_holds committed front (e ∷ []) kept bytes a b one whole =
    let first : AllByRecursion HasFrame front = All_left HasFrame front (e ∷ []) b in
    let last : AllByRecursion HasFrame (e ∷ []) = right front (e ∷ []) b in
    elim (cases_lt kept (frame_size e)) [
      | inl less ↦ (
        committed ++ front,
        framed_hold (committed ++ front) (take kept (spelling e ++ [])) bytes (All_append HasFrame committed front a first) (whole ∙ frames_more committed front (take kept (spelling e ++ [])))
            (cut_so (take kept (spelling e ++ [])) (take kept (spelling e)) (ap (take kept) (append-nil (spelling e))) (part_is_cut e kept last.0 less)),
      )
      | inr more ↦
          let all : take kept (frames (e ∷ [])) ≡ frames (e ∷ []) = take_all kept (frames (e ∷ [])) (subst (λ (w : List ℕ). length w ≤ kept) (sym (append-nil (spelling e))) more) in (
            committed ++ (front ++ e ∷ []),
            framed_hold (committed ++ (front ++ e ∷ [])) [] bytes (All_append HasFrame committed (front ++ e ∷ []) a b)
                (whole ∙ (ap (λ (w : List ℕ). frames committed ++ (frames front ++ w)) all
                ∙ (ap (λ (w : List ℕ). frames committed ++ w) (sym (flat_map-append spelling front (e ∷ [])))
                ∙ (sym (flat_map-append spelling committed (front ++ e ∷ [])) ∙ sym (append-nil (frames (committed ++ (front ++ e ∷ [])))))))) nothing_is_cut,
          )
    ]
  where
    right : (xs ys : List Entry) → AllByRecursion HasFrame (xs ++ ys) → AllByRecursion HasFrame ys
    right [] ys h = h
    right (x ∷ xs) ys h = right xs ys h.1
torn_holds committed front (e ∷ f ∷ back) kept bytes a b one whole = absurd (omega (arith, one))

-- what a live server's log has behind the frames of its commits
tail_holds : (broken : Bool) (committed pending : List Entry) (rest bytes : List ℕ) → AllByRecursion HasFrame committed → AllByRecursion HasFrame pending → bytes ≡ frames committed ++ rest
    → Tail broken rest pending → HoldSome bytes
tail_holds false committed pending rest bytes a b whole tail = (
  committed ++ pending,
  framed_hold (committed ++ pending) [] bytes (All_append HasFrame committed pending a b)
      (whole ∙ (ap (λ (w : List ℕ). frames committed ++ w) tail ∙ (sym (flat_map-append spelling committed pending) ∙ sym (append-nil (frames (committed ++ pending)))))) nothing_is_cut,
)
tail_holds true committed pending rest bytes a b whole tail =
    torn_holds committed tail.front tail.back tail.kept bytes a (subst (AllByRecursion HasFrame) tail.split b) tail.one (whole ∙ ap (λ (w : List ℕ). frames committed ++ w) tail.bytes)

-- ---- the logs of a server

-- a log holds some entries
abbrev pub LogHoldsSome : Contents → ℕ → ℕ → Type 0
LogHoldsSome c s l = (es : List Entry) × LogHolds c s l es

abbrev pub AreFramed : List Commit → Type 0
AreFramed commits = AllByRecursion (λ (x : Commit). HasFrame (entry_of x)) commits

log_framed : (s l : ℕ) (commits : List Commit) → AreFramed commits → AllByRecursion HasFrame (log_entries s l commits)
log_framed s l commits a = All_mapped HasFrame entry_of (log_commits s l commits) (All_filtered (λ (x : Commit). HasFrame (entry_of x)) _ commits a)

sealed_holds : (c : Contents) (s l : ℕ) (es : List Entry) → AllByRecursion HasFrame es → IsSealedLog (c.files wal (log_name s l)) es → LogHoldsSome c s l
sealed_holds c s l es framed k = (es, record { file = k.file; there = k.there; holds = framed_hold es k.part k.file.bytes framed k.bytes (tail_is_cut k.part k.tail) })

current_holds : (c : Contents) (commits : List Commit) (h : HostValue) (srv : Server) (sealed : Bool) → AreFramed commits
    → AllByRecursion HasFrame (pending_entries srv.number srv.log commits srv.pending) → Current c commits h srv sealed → LogHoldsSome c srv.number srv.log
current_holds c commits h srv true a b k = sealed_holds c srv.number srv.log (log_entries srv.number srv.log commits) (log_framed srv.number srv.log commits a) k.3
current_holds c commits h srv false a b k =
    let f = k.writer.file in
    let w = tail_holds (not srv.whole) (log_entries srv.number srv.log commits) (pending_entries srv.number srv.log commits srv.pending) f.holds.rest f.file.bytes
    (log_framed srv.number srv.log commits a) b f.holds.bytes f.holds.tail in
    (w.0, record { file = f.file; there = f.there; holds = w.1 })

pub station_holds : (c : Contents) (side : Side) (st : Station) (srv : Server) (l : ℕ) → AreFramed side.commits → StationStands c side st srv → srv.lowest ≤ l → l ≤ srv.log → LogHoldsSome c srv.number l
station_holds c side st srv l a k low high = elim (cases_lt l srv.log) [
  | inl less ↦ sealed_holds c srv.number l (log_entries srv.number l side.commits) (log_framed srv.number l side.commits a) (k.logs.earlier l low less)
  | inr more ↦ let same : srv.log ≡ l = omega (arith, more, high) in subst (LogHoldsSome c srv.number) same (current_holds c side.commits st.host srv srv.sealed a k.framed k.logs.current)
]
