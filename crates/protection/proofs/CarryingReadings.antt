-- Readings of document 02, C-19, each on a system of a few commands, by computation. Assumes nothing.
use mathlib.Core.Path.{◌≡◌, refl}
use mathlib.Core.Bool.{Bool, true, false}
use mathlib.Core.List.{List, [], ◌∷◌}
use Prim.Native.Nat.{ℕ}
use Rattle.cases.specs.Cases.{iterate, all, any}
use Rattle.protection.specs.State.{subject, State}
use Rattle.protection.specs.Command.{enter, delete, System}
use Rattle.protection.specs.Carrying.{chained, meets}
use Rattle.protection.specs.Execution.{unbounded, refused, execute}
use Rattle.protection.specs.Leak.{is_refused, leaks, any_refused}
use Rattle.protection.specs.Size.{count}
use Rattle.protection.specs.Judge.{lowest_free, rounds, judge_beside, judge}
use Rattle.protection.specs.Need.{holds_all}
use Rattle.protection.proofs.Small.{mark, state, if_in, command, system, system_carrying, call, safe, unsafe}

-- subject 0, with the right i alone in the cell (0,0)
abbrev with : ℕ → State
with i = state (subject ∷ []) (mark i 0 0 ∷ [])

-- ---- "Who may approve a shade may also read it": right 0 is read, 1 approve, which carries read, 2 a shade's mark
-- rule 0 asks for read and enters the mark; 1 asks for approve and enters the mark; 2 asks for read and enters read; 3 deletes read; 4 deletes approve; 5 enters approve
abbrev shades : System
shades =
    system_carrying 3 ([] ∷ (0 ∷ []) ∷ [])
    (command 1 (if_in 0 0 0 ∷ []) (enter 2 0 0 ∷ []) ∷
    command 1 (if_in 1 0 0 ∷ []) (enter 2 0 0 ∷ []) ∷
    command 1 (if_in 0 0 0 ∷ []) (enter 0 0 0 ∷ []) ∷
    command 1 [] (delete 0 0 0 ∷ []) ∷
    command 1 [] (delete 1 0 0 ∷ []) ∷
    command 1 [] (enter 1 0 0 ∷ []) ∷ [])

approve-reads : is_refused (execute unbounded shades (with 1) (call 0 (0 ∷ []))) ≡ false
unfolding all any meets chained
approve-reads = refl

-- it is not turned round
read_approves_nothing : execute unbounded shades (with 0) (call 1 (0 ∷ [])) ≡ refused 14
unfolding all any meets chained
read_approves_nothing = refl

-- a right that neither is nor carries read
mark_reads_nothing : execute unbounded shades (with 2) (call 0 (0 ∷ [])) ≡ refused 14
unfolding all any meets chained
mark_reads_nothing = refl

-- ---- "Carrying goes on through further rights"
-- of g rights and what each carries, whether right i in a cell meets a condition on q
abbrev meets_in : ℕ → List (List ℕ) → ℕ → ℕ → Bool
meets_in g ls i q = meets (system_carrying g ls []) ((with i).cell 0 0) q

-- a chain of three links: 0, 1, 2, 3
abbrev row : List (List ℕ)
row = (1 ∷ []) ∷ (2 ∷ []) ∷ (3 ∷ []) ∷ []

three_links : meets_in 4 row 0 3 ≡ true
unfolding any meets chained
three_links = refl

two_links : meets_in 4 row 0 2 ≡ true
unfolding any meets chained
two_links = refl

none_back : meets_in 4 row 3 0 ≡ false
unfolding any meets chained
none_back = refl

-- as many links as there are rights but one, in the order that needs them all
eight_rights : meets_in 8 ((1 ∷ []) ∷ (2 ∷ []) ∷ (3 ∷ []) ∷ (4 ∷ []) ∷ (5 ∷ []) ∷ (6 ∷ []) ∷ (7 ∷ []) ∷ []) 0 7 ≡ true
unfolding any meets chained
eight_rights = refl

-- a cycle: each of 0, 1, 2 carries each; 3 stands outside
abbrev ring : List (List ℕ)
ring = (1 ∷ []) ∷ (2 ∷ []) ∷ (0 ∷ []) ∷ []

round_the_ring : meets_in 4 ring 1 0 ≡ true
unfolding any meets chained
round_the_ring = refl

and_to_itself : meets_in 4 ring 1 1 ≡ true
unfolding any meets chained
and_to_itself = refl

out_of_the_ring : meets_in 4 ring 1 3 ≡ false
unfolding any meets chained
out_of_the_ring = refl

-- ---- "each right carries itself", whether the file says so or not
itself_unsaid : meets_in 2 [] 1 1 ≡ true
unfolding any meets chained
itself_unsaid = refl

itself_said : meets_in 2 ([] ∷ (1 ∷ []) ∷ []) 1 1 ≡ true
unfolding any meets chained
itself_said = refl

itself_alone : meets_in 2 ([] ∷ (1 ∷ []) ∷ []) 1 0 ≡ false
unfolding any meets chained
itself_alone = refl

-- ---- "Enter, delete, leak and a press's cells still look at the cell's own bits"
-- a cell that approve alone makes read lacks read: entering it leaks
leaks_what_was_met : leaks unbounded shades 0 (with 1) (call 2 (0 ∷ []) ∷ []) ≡ true
unfolding leaks all any meets chained
leaks_what_was_met = refl

-- and to enter approve enters no read
enters_itself_alone : leaks unbounded shades 0 (with 2) (call 5 (0 ∷ []) ∷ []) ≡ false
unfolding leaks all
enters_itself_alone = refl

-- the judge finds the former
judged_by_own_bits : judge (system_carrying 2 ([] ∷ (0 ∷ []) ∷ []) (command 1 (if_in 0 0 0 ∷ []) (enter 0 0 0 ∷ []) ∷ [])) 0 (with 1) ≡ unsafe (call 0 (0 ∷ []) ∷ [])
unfolding judge_beside rounds lowest_free iterate all any count meets chained
judged_by_own_bits = refl

-- a delete of read leaves approve, which carries it; a delete of approve does not leave read
deletes_itself_alone : any_refused unbounded shades (with 1) (call 3 (0 ∷ []) ∷ call 0 (0 ∷ []) ∷ []) ≡ false
unfolding any_refused all any meets chained
deletes_itself_alone = refl

carried_no_more : any_refused unbounded shades (with 1) (call 4 (0 ∷ []) ∷ call 0 (0 ∷ []) ∷ []) ≡ true
unfolding any_refused all any meets chained
carried_no_more = refl

-- a press does not hold read where approve stands alone
needs_its_own : holds_all (record { subject = 0; object = 0; right = 0 } ∷ []) (with 1) ≡ false
needs_its_own = refl

-- ---- "In the closing search": r is out of the cell, and a right that stays there and carries r still meets a condition on r
-- subject 0 with both rights in (0,0); rule 0 deletes 0, 1 asks for 0 and enters it
abbrev both : State
both = state (subject ∷ []) (mark 0 0 0 ∷ mark 1 0 0 ∷ [])

stays_and_carries : judge (system_carrying 2 ([] ∷ (0 ∷ []) ∷ []) (command 1 [] (delete 0 0 0 ∷ []) ∷ command 1 (if_in 0 0 0 ∷ []) (enter 0 0 0 ∷ []) ∷ [])) 0 both
    ≡ unsafe (call 0 (0 ∷ []) ∷ call 1 (0 ∷ []) ∷ [])
unfolding judge_beside rounds lowest_free iterate all any count meets chained
stays_and_carries = refl

stays_and_carries_nothing : judge (system 2 (command 1 [] (delete 0 0 0 ∷ []) ∷ command 1 (if_in 0 0 0 ∷ []) (enter 0 0 0 ∷ []) ∷ [])) 0 both ≡ safe []
unfolding judge_beside rounds lowest_free iterate all any count meets chained
stays_and_carries_nothing = refl
