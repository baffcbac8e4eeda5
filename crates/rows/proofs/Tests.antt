-- A row's claim as a test that computes, with a number z in place of its file's refusal and m in place of its state; and the rows that fail, by their names. Assumes nothing.
use Prim.Native.Nat.{ℕ, ◌%◌}
use Prim.Native.String.{String}
use mathlib.Core.Path.{◌≡◌, refl, ap, ap₂, subst, ◌∙◌}
use mathlib.Core.Bool.{Bool, true, false, ◌&&◌}
use mathlib.Core.List.{List, [], ◌∷◌, ◌++◌}
use native.Mathlib.Omega.{arith}
use lib.Dec.{T, eqb, ltb, leb, eqb→eq}
use lib.ListN.{length, take, drop}
use Rattle.cases.specs.Cases.{pick}
use Rattle.cases.proofs.Bools.{and_left, and_right}
use Rattle.protection.specs.State.{State}
use Rattle.protection.specs.Command.{Call}
use Rattle.protection.specs.Execution.{bounded, Outcome, execute}
use Rattle.protection.specs.Judge.{Progress, all_rounds, Verdict, judge}
use Rattle.protection.specs.Need.{held_of}
use Rattle.protection.specs.Part.{judge_part}
use Rattle.layout.specs.File.{rights_of}
use Rattle.layout.specs.Refusals.{or_else}
use Rattle.policy.specs.Refusals.{refusal}
use Rattle.policy.specs.Contents.{policy_of, file_state, file_system}
use Rattle.update.specs.Files.{code_of, rewritten, run_code, run_file}
use Rattle.trace.specs.Traces.{calls, steps_in}
use Rattle.trace.specs.Replays.{replay_from, file_replay, Replay, NoLeak, Leak, Refused as RefusedAt}
use Rattle.safety.specs.Judgement.{caller_refusal, judge_refusal, judgement_by, file_judgement, filled, buffer_by, file_buffer}
use Rattle.safety.specs.Demand3.{Judgement, Refused, Safe, Unsafe}
use Rattle.goals.specs.Goals.{cells_in}
use Rattle.questions.specs.Refusals.{size_refusal}
use Rattle.needs.specs.Needed.{list_refusal, need_refusal, need_of, file_need, need_buffer, Need, Refused as NeedRefused, Held, Never}
use Rattle.parts.specs.Parts.{left_out, trusted_refusal, part_refusal, part_judgement, part_buffer}
use Rattle.sheets.specs.Sheets.{sheet_limit, sheet_refusal, entry_of, answers, part_length, parts_filled, sheet_after, buffer_after}
use Rattle.sheets.specs.declared.Entry.{Entry}
use Rattle.listing.specs.Listing.{printed, buffer_bytes, listing}
use Rattle.rows.specs.Build.{joined}
use Rattle.rows.specs.Cases.{Case, checks, runs, replays, judges, judges_part, needs, asks, prints, Holds, Row, AllHold}
use Rattle.rows.proofs.Walk.{walked_refusal, refusal_walked, walked_state, state_walked}

-- ---- equality, as a test
abbrev same_bytes : List ℕ → List ℕ → Bool
same_bytes [] [] = true
same_bytes [] (y ∷ l) = false
same_bytes (x ∷ k) [] = false
same_bytes (x ∷ k) (y ∷ l) = eqb x y && same_bytes k l

same-bytes : (k l : List ℕ) → T (same_bytes k l) → k ≡ l
same-bytes [] [] t = refl
same-bytes [] (y ∷ l) t = absurd t
same-bytes (x ∷ k) [] t = absurd t
same-bytes (x ∷ k) (y ∷ l) t = ap₂ ◌∷◌ (eqb→eq x y (and_left (eqb x y) (same_bytes k l) t)) (same-bytes k l (and_right (eqb x y) (same_bytes k l) t))

abbrev same_replay : Replay → Replay → Bool
same_replay NoLeak NoLeak = true
same_replay NoLeak (Leak j) = false
same_replay NoLeak (RefusedAt m j) = false
same_replay (Leak i) NoLeak = false
same_replay (Leak i) (Leak j) = eqb i j
same_replay (Leak i) (RefusedAt m j) = false
same_replay (RefusedAt n i) NoLeak = false
same_replay (RefusedAt n i) (Leak j) = false
same_replay (RefusedAt n i) (RefusedAt m j) = eqb n m && eqb i j

same-replay : (a b : Replay) → T (same_replay a b) → a ≡ b
same-replay NoLeak NoLeak t = refl
same-replay NoLeak (Leak j) t = absurd t
same-replay NoLeak (RefusedAt m j) t = absurd t
same-replay (Leak i) NoLeak t = absurd t
same-replay (Leak i) (Leak j) t = ap Leak (eqb→eq i j t)
same-replay (Leak i) (RefusedAt m j) t = absurd t
same-replay (RefusedAt n i) NoLeak t = absurd t
same-replay (RefusedAt n i) (Leak j) t = absurd t
same-replay (RefusedAt n i) (RefusedAt m j) t = ap₂ RefusedAt (eqb→eq n m (and_left (eqb n m) (eqb i j) t)) (eqb→eq i j (and_right (eqb n m) (eqb i j) t))

abbrev same_judgement : Judgement → Judgement → Bool
same_judgement (Refused n) (Refused m) = eqb n m
same_judgement (Refused n) (Safe m) = false
same_judgement (Refused n) (Unsafe m) = false
same_judgement (Safe n) (Refused m) = false
same_judgement (Safe n) (Safe m) = eqb n m
same_judgement (Safe n) (Unsafe m) = false
same_judgement (Unsafe n) (Refused m) = false
same_judgement (Unsafe n) (Safe m) = false
same_judgement (Unsafe n) (Unsafe m) = eqb n m

same-judgement : (a b : Judgement) → T (same_judgement a b) → a ≡ b
same-judgement (Refused n) (Refused m) t = ap Refused (eqb→eq n m t)
same-judgement (Refused n) (Safe m) t = absurd t
same-judgement (Refused n) (Unsafe m) t = absurd t
same-judgement (Safe n) (Refused m) t = absurd t
same-judgement (Safe n) (Safe m) t = ap Safe (eqb→eq n m t)
same-judgement (Safe n) (Unsafe m) t = absurd t
same-judgement (Unsafe n) (Refused m) t = absurd t
same-judgement (Unsafe n) (Safe m) t = absurd t
same-judgement (Unsafe n) (Unsafe m) t = ap Unsafe (eqb→eq n m t)

abbrev same_need : Need → Need → Bool
same_need (NeedRefused n) (NeedRefused m) = eqb n m
same_need (NeedRefused n) (Held m) = false
same_need (NeedRefused n) (Never m) = false
same_need (Held n) (NeedRefused m) = false
same_need (Held n) (Held m) = eqb n m
same_need (Held n) (Never m) = false
same_need (Never n) (NeedRefused m) = false
same_need (Never n) (Held m) = false
same_need (Never n) (Never m) = eqb n m

same-need : (a b : Need) → T (same_need a b) → a ≡ b
same-need (NeedRefused n) (NeedRefused m) t = ap NeedRefused (eqb→eq n m t)
same-need (NeedRefused n) (Held m) t = absurd t
same-need (NeedRefused n) (Never m) t = absurd t
same-need (Held n) (NeedRefused m) t = absurd t
same-need (Held n) (Held m) t = ap Held (eqb→eq n m t)
same-need (Held n) (Never m) t = absurd t
same-need (Never n) (NeedRefused m) t = absurd t
same-need (Never n) (Held m) t = absurd t
same-need (Never n) (Never m) t = ap Never (eqb→eq n m t)

abbrev same_question : Entry → Entry → Bool
same_question p q = eqb p.right q.right && (eqb p.verdict q.verdict && eqb p.count q.count)

same-question : (p q : Entry) → T (same_question p q) → p ≡ q
same-question p q t =
    let a = eqb p.right q.right in
    let b = eqb p.verdict q.verdict in
    let c = eqb p.count q.count in
    let r = eqb→eq p.right q.right (and_left a (b && c) t) in
    let v = eqb→eq p.verdict q.verdict (and_left b c (and_right a (b && c) t)) in
    let n = eqb→eq p.count q.count (and_right b c (and_right a (b && c) t)) in
    λ i. record { right = r i; verdict = v i; count = n i }

abbrev same_sheet : List Entry → List Entry → Bool
same_sheet [] [] = true
same_sheet [] (q ∷ t) = false
same_sheet (p ∷ s) [] = false
same_sheet (p ∷ s) (q ∷ t) = same_question p q && same_sheet s t

same-sheet : (s t : List Entry) → T (same_sheet s t) → s ≡ t
same-sheet [] [] h = refl
same-sheet [] (q ∷ t) h = absurd h
same-sheet (p ∷ s) [] h = absurd h
same-sheet (p ∷ s) (q ∷ t) h = ap₂ ◌∷◌ (same-question p q (and_left (same_question p q) (same_sheet s t) h)) (same-sheet s t (and_right (same_question p q) (same_sheet s t) h))

-- ---- the calls, with a number z in place of the file's refusal and m in place of its state
abbrev outcome_at : State → List ℕ → Call → Outcome
outcome_at m f x = execute bounded (file_system f) m x

abbrev code_at : ℕ → State → List ℕ → Call → ℕ
code_at z m f x = or_else z (code_of (outcome_at m f x))

abbrev file_at : ℕ → State → List ℕ → Call → List ℕ
file_at z m f x = pick (eqb z 0) (rewritten f (outcome_at m f x)) f

abbrev replay_at : ℕ → State → List ℕ → List ℕ → ℕ → Replay
replay_at z m f t r =
    pick (eqb z 0)
    (pick (leb (rights_of f) r) (RefusedAt 21 0)
    (pick (eqb (length t % 5) 0) (replay_from (file_system f) r (calls t (steps_in t)) 0 m)
    (RefusedAt 31 0)))
    (RefusedAt z 0)

abbrev judge_refusal_at : ℕ → State → List ℕ → ℕ → ℕ → ℕ
judge_refusal_at z m f r n = or_else z (caller_refusal (file_system f) m r n)

abbrev verdict_at : State → List ℕ → ℕ → Verdict
verdict_at m f r = judge (file_system f) r m

abbrev judgement_at : ℕ → State → List ℕ → ℕ → ℕ → Judgement
judgement_at z m f r n = judgement_by (judge_refusal_at z m f r n) (verdict_at m f r)

abbrev buffer_at : ℕ → State → List ℕ → ℕ → List ℕ → List ℕ
buffer_at z m f r b = buffer_by (judge_refusal_at z m f r (length b)) (verdict_at m f r) b

abbrev part_verdict_at : State → List ℕ → ℕ → List ℕ → Verdict
part_verdict_at m f r l = judge_part (file_system f) (left_out l) r m

abbrev part_refusal_at : ℕ → State → List ℕ → ℕ → List ℕ → ℕ → ℕ
part_refusal_at z m f r l n = or_else (judge_refusal_at z m f r n) (trusted_refusal m l)

abbrev part_judgement_at : ℕ → State → List ℕ → ℕ → List ℕ → ℕ → Judgement
part_judgement_at z m f r l n = judgement_by (part_refusal_at z m f r l n) (part_verdict_at m f r l)

abbrev part_buffer_at : ℕ → State → List ℕ → ℕ → List ℕ → List ℕ → List ℕ
part_buffer_at z m f r l b = buffer_by (part_refusal_at z m f r l (length b)) (part_verdict_at m f r l) b

abbrev rounds_at : State → List ℕ → List ℕ → Progress
rounds_at m f l = all_rounds (file_system f) (held_of (cells_in l)) m

abbrev need_refusal_at : ℕ → State → List ℕ → List ℕ → ℕ → ℕ
need_refusal_at z m f l n = or_else z (or_else (size_refusal (file_system f) m n) (list_refusal (file_system f) m l))

abbrev need_at : ℕ → State → List ℕ → List ℕ → ℕ → Need
need_at z m f l n = pick (eqb (need_refusal_at z m f l n) 0) (need_of (rounds_at m f l)) (NeedRefused (need_refusal_at z m f l n))

abbrev need_buffer_at : ℕ → State → List ℕ → List ℕ → List ℕ → List ℕ
need_buffer_at z m f l b = pick (eqb (need_refusal_at z m f l (length b)) 0) (filled (rounds_at m f l).steps b) b

abbrev answers_at : ℕ → State → List ℕ → ℕ → List Entry → List Entry
answers_at z m f k [] = []
answers_at z m f k (q ∷ s) = entry_of q.right (judgement_at z m f q.right k) ∷ answers_at z m f k s

abbrev parts_at : ℕ → State → List ℕ → ℕ → List Entry → List ℕ → List ℕ
parts_at z m f k [] b = b
parts_at z m f k (q ∷ s) b = buffer_at z m f q.right (take k b) ++ parts_at z m f k s (drop k b)

abbrev sheet_at : ℕ → State → List ℕ → List Entry → List ℕ → List Entry
sheet_at z m f s b = pick (ltb sheet_limit (length s)) s (answers_at z m f (part_length s b) s)

abbrev sheet_buffer_at : ℕ → State → List ℕ → List Entry → List ℕ → List ℕ
sheet_buffer_at z m f s b = pick (ltb sheet_limit (length s)) b (parts_at z m f (part_length s b) s b)

abbrev listing_at : ℕ → State → List ℕ → List ℕ
listing_at z m [] = listing []
listing_at z m (r ∷ f) = printed (policy_of f) (judgement_at z m f r buffer_bytes) (verdict_at m f r).steps

-- ---- a row
abbrev behind : List ℕ → List ℕ
behind [] = []
behind (r ∷ f) = f

abbrev file_in : Case → List ℕ
file_in (checks f n) = f
file_in (runs f x n f') = f
file_in (replays f t r answer) = f
file_in (judges f r b answer b') = f
file_in (judges_part f r l b answer b') = f
file_in (needs f l b answer b') = f
file_in (asks f s b r s' b') = f
file_in (prints input out) = behind input

abbrev test_at : ℕ → State → Case → Bool
test_at z m (checks f n) = eqb n z
test_at z m (runs f x n f') = eqb n (code_at z m f x) && same_bytes f' (file_at z m f x)
test_at z m (replays f t r answer) = same_replay answer (replay_at z m f t r)
test_at z m (judges f r b answer b') = same_judgement answer (judgement_at z m f r (length b)) && same_bytes b' (buffer_at z m f r b)
test_at z m (judges_part f r l b answer b') = same_judgement answer (part_judgement_at z m f r l (length b)) && same_bytes b' (part_buffer_at z m f r l b)
test_at z m (needs f l b answer b') = same_need answer (need_at z m f l (length b)) && same_bytes b' (need_buffer_at z m f l b)
test_at z m (asks f s b r s' b') = eqb r (sheet_refusal s) && (same_sheet s' (sheet_at z m f s b) && same_bytes b' (sheet_buffer_at z m f s b))
test_at z m (prints input out) = same_bytes out (listing_at z m input)

printed_is : (input : List ℕ) → listing_at (refusal (behind input)) (file_state (behind input)) input ≡ listing input
unfolding judge_refusal file_judgement
printed_is [] = refl
printed_is (r ∷ f) = refl

answers_are : (f : List ℕ) (k : ℕ) (s : List Entry) → answers_at (refusal f) (file_state f) f k s ≡ answers f k s
unfolding judge_refusal file_judgement
answers_are f k [] = refl
answers_are f k (q ∷ s) = ap (λ (t : List Entry). entry_of q.right (judgement_at (refusal f) (file_state f) f q.right k) ∷ t) (answers_are f k s)

parts_are : (f : List ℕ) (k : ℕ) (s : List Entry) (b : List ℕ) → parts_at (refusal f) (file_state f) f k s b ≡ parts_filled f k s b
unfolding judge_refusal file_buffer
parts_are f k [] b = refl
parts_are f k (q ∷ s) b = ap (λ (t : List ℕ). buffer_at (refusal f) (file_state f) f q.right (take k b) ++ t) (parts_are f k s (drop k b))

holds : (c : Case) → T (test_at (refusal (file_in c)) (file_state (file_in c)) c) → Holds c
unfolding run_code run_file file_replay judge_refusal file_judgement file_buffer part_refusal part_judgement part_buffer need_refusal file_need need_buffer sheet_after buffer_after
holds (checks f n) t = eqb→eq n (refusal f) t
holds (runs f x n f') t =
    let a = eqb n (code_at (refusal f) (file_state f) f x) in
    let b = same_bytes f' (file_at (refusal f) (file_state f) f x) in
    record { answer_is = eqb→eq n (code_at (refusal f) (file_state f) f x) (and_left a b t); file_is = same-bytes f' (file_at (refusal f) (file_state f) f x) (and_right a b t) }
holds (replays f t r answer) s = same-replay answer (replay_at (refusal f) (file_state f) f t r) s
holds (judges f r b answer b') t =
    let c = same_judgement answer (judgement_at (refusal f) (file_state f) f r (length b)) in
    let d = same_bytes b' (buffer_at (refusal f) (file_state f) f r b) in
    record { answer_is = same-judgement answer (judgement_at (refusal f) (file_state f) f r (length b)) (and_left c d t); buffer_is = same-bytes b' (buffer_at (refusal f) (file_state f) f r b) (and_right c d t) }
holds (judges_part f r l b answer b') t =
    let c = same_judgement answer (part_judgement_at (refusal f) (file_state f) f r l (length b)) in
    let d = same_bytes b' (part_buffer_at (refusal f) (file_state f) f r l b) in
    record { answer_is = same-judgement answer (part_judgement_at (refusal f) (file_state f) f r l (length b)) (and_left c d t); buffer_is = same-bytes b' (part_buffer_at (refusal f) (file_state f) f r l b) (and_right c d t) }
holds (needs f l b answer b') t =
    let c = same_need answer (need_at (refusal f) (file_state f) f l (length b)) in
    let d = same_bytes b' (need_buffer_at (refusal f) (file_state f) f l b) in
    record { answer_is = same-need answer (need_at (refusal f) (file_state f) f l (length b)) (and_left c d t); buffer_is = same-bytes b' (need_buffer_at (refusal f) (file_state f) f l b) (and_right c d t) }
holds (asks f s b r s' b') t =
    let c = eqb r (sheet_refusal s) in
    let d = same_sheet s' (sheet_at (refusal f) (file_state f) f s b) in
    let e = same_bytes b' (sheet_buffer_at (refusal f) (file_state f) f s b) in
    record {
      code_is = eqb→eq r (sheet_refusal s) (and_left c (d && e) t);
      sheet_is = same-sheet s' (sheet_at (refusal f) (file_state f) f s b) (and_left d e (and_right c (d && e) t)) ∙ ap (pick (ltb sheet_limit (length s)) s) (answers_are f (part_length s b) s);
      buffer_is = same-bytes b' (sheet_buffer_at (refusal f) (file_state f) f s b) (and_right d e (and_right c (d && e) t)) ∙ ap (pick (ltb sheet_limit (length s)) b) (parts_are f (part_length s b) s b);
    }
holds (prints input out) t = same-bytes out (listing_at (refusal (behind input)) (file_state (behind input)) input) t ∙ printed_is input

-- ---- the rows that fail
abbrev test : Case → Bool
test c = test_at (walked_refusal (file_in c)) (walked_state (file_in c)) c

tested : (c : Case) → T (test c) → Holds c
tested c t =
    holds c
    (subst (λ (m : State). T (test_at (refusal (file_in c)) m c)) (state_walked (file_in c))
    (subst (λ (z : ℕ). T (test_at z (walked_state (file_in c)) c)) (refusal_walked (file_in c)) t))

abbrev pub failing : List Row → List String
failing [] = []
failing (w ∷ ws) = pick (test w.case) [] (w.name ∷ []) ++ failing ws

pub none_failing : (ws : List Row) → failing ws ≡ [] → AllHold ws
none_failing [] e = tt
none_failing (w ∷ ws) e = go (test w.case) (tested w.case) (none_failing ws) e
  where
    go : (b : Bool) → (T b → Holds w.case) → (failing ws ≡ [] → AllHold ws) → pick b [] (w.name ∷ []) ++ failing ws ≡ [] → Holds w.case × AllHold ws
    go true h hs e = (h tt, hs e)
    go false h hs e = absurd (let z : ◌≡◌ {A = ℕ} 0 1 = cc in omega arith)

-- ---- the rows of several lists
hold_both : (vs ws : List Row) → AllHold vs → AllHold ws → AllHold (vs ++ ws)
hold_both [] ws h k = k
hold_both (v ∷ vs) ws (h, hs) k = (h, hold_both vs ws hs k)

abbrev pub HoldEach : List (List Row) → Type 0
HoldEach [] = Unit {0}
HoldEach (p ∷ ps) = AllHold p × HoldEach ps

pub hold_joined : (ps : List (List Row)) → HoldEach ps → AllHold (joined ps)
hold_joined [] h = tt
hold_joined (p ∷ ps) (h, hs) = hold_both p (joined ps) h (hold_joined ps hs)
