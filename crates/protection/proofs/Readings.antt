-- Readings of document 01 that no code of this crate computes, each on a system of a few commands, by computation. Assumes nothing.
use Prim.Native.Nat.{ℕ}
use mathlib.Core.Path.{◌≡◌, refl, sym, ap, ◌∙◌}
use mathlib.Core.Bool.{Bool, true, false}
use mathlib.Core.List.{List, [], ◌∷◌}
use native.Mathlib.Omega.{arith}
use lib.Dec.{eqb}
use Rattle.cases.specs.Cases.{iterate, all, any}
use Rattle.protection.specs.State.{absent, object, subject, State}
use Rattle.protection.specs.Command.{Operation, enter, delete, create_subject, create_object, destroy_subject, destroy_object, System, Call}
use Rattle.protection.specs.Carrying.{meets}
use Rattle.protection.specs.Execution.{bounded, unbounded, refused, execute}
use Rattle.protection.specs.Leak.{is_refused, leaks, any_refused, LeaksLast}
use Rattle.protection.specs.Size.{count}
use Rattle.protection.specs.Judge.{lowest_free, places_of, rounds, all_rounds, judge_beside, judge}
use Rattle.protection.specs.Part.{judge_part}
use Rattle.protection.specs.Need.{Cell, CellsThere, held_of, nothing, final, destroys_any_old, destroys_start, HeldAfter, NeverHeld}
use Rattle.protection.proofs.Small.{mark, state, if_in, command, system, call, safe, unsafe}

-- ---- leaks (right 0, rules (a) on the cell (a,a))
-- rule 0 enters 0; 1 deletes 0 and enters it again; 2 enters 0 and deletes it again; 3 enters 0, and then a is created, which cannot be done; 4 creates a
abbrev S : System
S =
    system 1
    (command 1 [] (enter 0 0 0 ∷ []) ∷
    command 1 [] (delete 0 0 0 ∷ enter 0 0 0 ∷ []) ∷
    command 1 [] (enter 0 0 0 ∷ delete 0 0 0 ∷ []) ∷
    command 1 [] (enter 0 0 0 ∷ create_subject 0 ∷ []) ∷
    command 1 [] (create_subject 0 ∷ []) ∷ [])

-- subject 0, without and with right 0 in (0,0)
abbrev without : State
without = state (subject ∷ []) []

abbrev with : State
with = state (subject ∷ []) (mark 0 0 0 ∷ [])

-- of a start and a run, whether it leaks right 0 on the printer's machine
abbrev leaks_from : State → List Call → Bool
leaks_from m xs = leaks unbounded S 0 m xs

-- "It leaks r if .. some step enters r into a cell that lacks r at that step, even if a later step removes it."
leak_after_delete : leaks_from with (call 1 (0 ∷ []) ∷ []) ≡ true
unfolding leaks all
leak_after_delete = refl

leak_before_delete : leaks_from without (call 2 (0 ∷ []) ∷ []) ≡ true
unfolding leaks all
leak_before_delete = refl

right_there : leaks_from with (call 0 (0 ∷ []) ∷ []) ≡ false
unfolding leaks all
right_there = refl

-- "in a rule carried out whole"
refused_later : leaks_from without (call 3 (0 ∷ []) ∷ []) ≡ false
unfolding leaks all
refused_later = refl

-- "a finite list of rule runs, refused ones included; it may be empty"
refused_first : leaks_from without (call 3 (0 ∷ []) ∷ call 0 (0 ∷ []) ∷ []) ≡ true
unfolding leaks all
refused_first = refl

no_call : leaks_from without [] ≡ false
unfolding leaks
no_call = refl

-- "Each rule run meets the state that the one before left"
state_before : leaks_from with (call 4 (1 ∷ []) ∷ call 0 (1 ∷ []) ∷ []) ≡ true
unfolding leaks all
state_before = refl

-- "names are whole numbers from 0 up, without a bound"; on the file's matrix they are below 32
large_name : leaks_from with (call 4 (100000 ∷ []) ∷ call 0 (100000 ∷ []) ∷ []) ≡ true
unfolding leaks all
large_name = refl

bounded_names : execute bounded S with (call 4 (32 ∷ [])) ≡ refused 12
unfolding all
bounded_names = refl

-- "save that 31 is no bound for a name": positions from k on hold 255
unused_position : execute unbounded S with (call 4 (1 ∷ 0 ∷ [])) ≡ refused 12
unfolding all
unused_position = refl

-- "It leaks at its last step and nowhere sooner if none of its rule runs is refused, it leaks, and without its last rule run it does not."
last_leaks : LeaksLast unbounded S 0 with (call 4 (1 ∷ []) ∷ call 0 (1 ∷ []) ∷ [])
unfolding leaks any_refused all
last_leaks = record { carried = λ t. t; leak = tt; sooner = λ t. t }

none_refused : LeaksLast unbounded S 0 without (call 3 (0 ∷ []) ∷ call 0 (0 ∷ []) ∷ []) → ⊥
unfolding any_refused all
none_refused h = h.carried tt

it_leaks : LeaksLast unbounded S 0 with (call 0 (0 ∷ []) ∷ []) → ⊥
unfolding leaks all
it_leaks h = h.leak

not_sooner : LeaksLast unbounded S 0 without (call 0 (0 ∷ []) ∷ call 0 (0 ∷ []) ∷ []) → ⊥
unfolding leaks all
not_sooner h = h.sooner tt

-- ---- spare blanks (document 02, C-11)
-- rule 0 (a,b,c): enter 0 into (b,b); nothing names a and c
abbrev job : System
job = system 1 (command 3 [] (enter 0 1 1 ∷ []) ∷ [])

-- "such a blank takes any byte", on the printer's machine any number
any_byte : is_refused (execute bounded job without (call 0 (117 ∷ 0 ∷ 255 ∷ []))) ≡ false
unfolding all
any_byte = refl

any_number : is_refused (execute unbounded job without (call 0 (100000 ∷ 0 ∷ 255 ∷ []))) ≡ false
unfolding all
any_number = refl

-- "12 looks at named blanks and at positions from k on"
named_blank : execute bounded job without (call 0 (117 ∷ 32 ∷ 255 ∷ [])) ≡ refused 12
unfolding all
named_blank = refl

behind_the_blanks : execute bounded job without (call 0 (117 ∷ 0 ∷ 117 ∷ 117 ∷ [])) ≡ refused 12
unfolding all
behind_the_blanks = refl

-- a rule with spare blanks has as many places as without them
spare_places : places_of (command 3 [] (enter 0 1 1 ∷ [])) 0 ≡ 32
spare_places = refl

-- ---- the judge
-- "for each rule through all actuals, the first blank slowest"
blanks_in_order : judge (system 1 (command 2 [] (enter 0 0 1 ∷ []) ∷ [])) 0 (state (subject ∷ subject ∷ []) (mark 0 0 0 ∷ [])) ≡ unsafe (call 0 (0 ∷ 1 ∷ []) ∷ [])
unfolding judge_beside rounds lowest_free iterate all count
blanks_in_order = refl

-- "It goes through the rules in order"; "After the last rule it starts again"
rules-in-order
    : judge (system 2 (command 1 (if_in 1 0 0 ∷ []) (enter 0 0 0 ∷ []) ∷ command 1 [] (enter 1 0 0 ∷ []) ∷ command 1 [] (enter 0 0 0 ∷ []) ∷ [])) 0 without
    ≡ unsafe (call 1 (0 ∷ []) ∷ call 2 (0 ∷ []) ∷ [])
unfolding judge_beside rounds lowest_free iterate all count meets any
rules-in-order = refl

again_from_the_first : judge (system 2 (command 1 (if_in 1 0 0 ∷ []) (enter 0 0 0 ∷ []) ∷ command 1 [] (enter 1 0 0 ∷ []) ∷ [])) 0 without ≡ unsafe (call 1 (0 ∷ []) ∷ call 0 (0 ∷ []) ∷ [])
unfolding judge_beside rounds lowest_free iterate all count meets any
again_from_the_first = refl

-- "A created blank gets only the name that is lowest absent when the judge reaches the rule in that round"; "a create object if the judge has done no create
-- object yet; a create subject likewise, each counted by itself. Deletes and destroys are passed by."
creates
    : judge
    (system 2
    (command 1 [] (create_subject 0 ∷ []) ∷
    command 1 [] (create_subject 0 ∷ []) ∷
    command 1 [] (create_object 0 ∷ []) ∷
    command 1 [] (create_object 0 ∷ []) ∷
    command 1 [] (enter 1 0 0 ∷ []) ∷
    command 1 [] (delete 1 0 0 ∷ []) ∷
    command 1 [] (destroy_subject 0 ∷ []) ∷
    command 1 [] (destroy_object 0 ∷ []) ∷ []))
    0
    (state (absent ∷ subject ∷ object ∷ []) [])
    ≡ safe (call 0 (0 ∷ []) ∷ call 2 (3 ∷ []) ∷ call 4 (0 ∷ []) ∷ call 4 (1 ∷ []) ∷ [])
unfolding judge_beside rounds lowest_free iterate all count
creates = refl

-- "The judge always writes 0 there" (C-11)
spare_is_0 : judge (system 1 (command 3 [] (enter 0 1 1 ∷ []) ∷ [])) 0 (state (absent ∷ subject ∷ []) []) ≡ unsafe (call 0 (0 ∷ 1 ∷ 0 ∷ []) ∷ [])
unfolding judge_beside rounds lowest_free iterate all count
spare_is_0 = refl

-- "for each start cell (s, o) holding r, row by row: the first allowed delete of r from it, and the first enter of r into it allowed once r is gone; the first
-- cell with both adds these two steps": from (0,0) right 0 is deleted and not entered again
cells-in-order
    : judge
    (system 2 (command 2 [] (delete 0 0 1 ∷ []) ∷ command 2 (if_in 1 0 1 ∷ []) (enter 0 0 1 ∷ []) ∷ []))
    0
    (state (subject ∷ subject ∷ []) (mark 0 0 0 ∷ mark 0 0 1 ∷ mark 1 0 1 ∷ mark 0 1 0 ∷ mark 1 1 0 ∷ []))
    ≡ unsafe (call 0 (0 ∷ 1 ∷ []) ∷ call 1 (0 ∷ 1 ∷ []) ∷ [])
unfolding judge_beside rounds lowest_free iterate all count meets any
cells-in-order = refl

-- "once r is gone": from that cell, and from no other
gone_there : judge (system 1 (command 1 [] (delete 0 0 0 ∷ []) ∷ command 1 (if_in 0 0 0 ∷ []) (enter 0 0 0 ∷ []) ∷ [])) 0 with ≡ safe []
unfolding judge_beside rounds lowest_free iterate all count meets any
gone_there = refl

there-elsewhere
    : judge
    (system 1 (command 2 (if_in 0 0 0 ∷ []) (enter 0 0 1 ∷ []) ∷ command 2 [] (delete 0 0 1 ∷ []) ∷ []))
    0
    (state (subject ∷ object ∷ []) (mark 0 0 0 ∷ mark 0 0 1 ∷ []))
    ≡ unsafe (call 1 (0 ∷ 1 ∷ []) ∷ call 0 (0 ∷ 1 ∷ []) ∷ [])
unfolding judge_beside rounds lowest_free iterate all count meets any
there-elsewhere = refl

-- ---- names left out (document 02, C-15); name 0 is left out
abbrev office : ℕ → Bool
office x = eqb x 0

-- "drop their rows and columns, and judge the part that stays": rule 0 (a,b): if 1 in (a,b), enter 0 into (b,b); right 1 stands in the office's row
abbrev grants : System
grants = system 2 (command 2 (if_in 1 0 1 ∷ []) (enter 0 1 1 ∷ []) ∷ [])

office_grants : judge grants 0 (state (subject ∷ subject ∷ []) (mark 1 0 1 ∷ [])) ≡ unsafe (call 0 (0 ∷ 1 ∷ []) ∷ [])
unfolding judge_beside rounds lowest_free iterate all count meets any
office_grants = refl

without_its_row : judge_part grants office 0 (state (subject ∷ subject ∷ []) (mark 1 0 1 ∷ [])) ≡ safe []
unfolding judge_beside rounds lowest_free iterate all count meets any
without_its_row = refl

-- and in its column
without_its_column : judge_part (system 2 (command 2 (if_in 1 0 1 ∷ []) (enter 0 0 0 ∷ []) ∷ [])) office 0 (state (subject ∷ subject ∷ []) (mark 1 1 0 ∷ [])) ≡ safe []
unfolding judge_beside rounds lowest_free iterate all count meets any
without_its_column = refl

-- what stays leaks by itself
leaks_without : judge_part grants office 0 (state (subject ∷ subject ∷ object ∷ []) (mark 1 1 1 ∷ [])) ≡ unsafe (call 0 (1 ∷ 1 ∷ []) ∷ [])
unfolding judge_beside rounds lowest_free iterate all count meets
leaks_without = refl

-- "created names are the lowest absent in the whole matrix": not 0, though the part lacks it
created-beside
    : judge_part (system 2 (command 1 [] (create_subject 0 ∷ []) ∷ command 1 (if_in 1 0 0 ∷ []) (enter 0 0 0 ∷ []) ∷ [])) office 0 (state (subject ∷ subject ∷ []) [])
    ≡ safe (call 0 (2 ∷ []) ∷ [])
unfolding judge_beside rounds lowest_free iterate all count meets any
created-beside = refl

-- the closing search goes through the part's start cells: right 0 can be taken from (0,1) and given back, which the part lacks
abbrev returning : System
returning = system 1 (command 2 [] (delete 0 0 1 ∷ []) ∷ command 2 [] (enter 0 0 1 ∷ []) ∷ [])

whole_cells : judge returning 0 (state (subject ∷ object ∷ []) (mark 0 0 0 ∷ mark 0 0 1 ∷ [])) ≡ unsafe (call 0 (0 ∷ 0 ∷ []) ∷ call 1 (0 ∷ 0 ∷ []) ∷ [])
unfolding judge_beside rounds lowest_free iterate all count
whole_cells = refl

part_cells : judge_part returning office 0 (state (subject ∷ object ∷ []) (mark 0 0 0 ∷ mark 0 0 1 ∷ [])) ≡ safe []
unfolding judge_beside rounds lowest_free iterate all count
part_cells = refl

-- ---- cells that are needed (document 02, C-14)
abbrev needs : ℕ → ℕ → ℕ → Cell
needs q s o = record { right = q; subject = s; object = o }

-- rights 0 to 2; rule 0 (a) enters 0 into (a,a); 1 (a,b): if 0 in (b,b), enter 1 into (a,a); 2 (a): if 1 in (a,a), destroy subject a; 3 (a) creates subject a
abbrev press : System
press =
    system 3
    (command 1 [] (enter 0 0 0 ∷ []) ∷
    command 2 (if_in 0 1 1 ∷ []) (enter 1 0 0 ∷ []) ∷
    command 1 (if_in 1 0 0 ∷ []) (destroy_subject 0 ∷ []) ∷
    command 1 [] (create_subject 0 ∷ []) ∷ [])

-- the judge's steps, up to a matrix that holds the cells
abbrev steps_to : List Cell → State → List Call
steps_to cs m = (all_rounds press (held_of cs) m).steps

-- "the judge's steps, in its order, up to the first matrix that holds them all (0 steps if the start does)"
up_to_held : steps_to (needs 1 0 0 ∷ needs 0 0 0 ∷ []) without ≡ call 0 (0 ∷ []) ∷ call 1 (0 ∷ 0 ∷ []) ∷ []
unfolding rounds lowest_free iterate all count meets
up_to_held = refl

no_cells : steps_to [] without ≡ []
unfolding rounds lowest_free iterate all count
no_cells = refl

held_at_the_start : steps_to (needs 0 0 0 ∷ []) with ≡ []
unfolding rounds lowest_free iterate all count
held_at_the_start = refl

-- "all the steps of the rounds then stand in the buffer"
abbrev all_steps : List Call
all_steps = call 0 (0 ∷ []) ∷ call 1 (0 ∷ 0 ∷ []) ∷ call 3 (1 ∷ []) ∷ call 0 (1 ∷ []) ∷ call 1 (1 ∷ 0 ∷ []) ∷ []

never_held : steps_to (needs 2 0 0 ∷ []) without ≡ all_steps
unfolding rounds lowest_free iterate all count meets
never_held = refl

by_nothing : (all_rounds press nothing without).steps ≡ all_steps
unfolding rounds lowest_free iterate all count meets
by_nothing = refl

-- a first rule run that the judge does not begin with
not_the_judges : HeldAfter press (needs 0 0 0 ∷ []) without (call 3 (1 ∷ []) ∷ call 0 (0 ∷ []) ∷ []) → ⊥
not_the_judges h =
    let e : all_steps ≡ call 3 (1 ∷ []) ∷ call 0 (0 ∷ []) ∷ h.front.0 = sym by_nothing ∙ h.front.1 in
    let same : call 0 (0 ∷ []) ≡ call 3 (1 ∷ []) = cc in
    let z : ◌≡◌ {A = ℕ} 0 3 = ap (λ (x : Call). x.command) same in
    omega arith

none_refused_either : HeldAfter press (needs 0 0 0 ∷ []) without (call 2 (0 ∷ []) ∷ call 0 (0 ∷ []) ∷ []) → ⊥
unfolding any_refused all meets any
none_refused_either h = h.carried tt

all_held : HeldAfter press (needs 0 0 0 ∷ needs 1 0 0 ∷ []) without (call 0 (0 ∷ []) ∷ []) → ⊥
unfolding final all
all_held h = h.held

no_step_too_many : HeldAfter press (needs 0 0 0 ∷ []) without (call 0 (0 ∷ []) ∷ call 1 (0 ∷ 0 ∷ []) ∷ []) → ⊥
unfolding final all
no_step_too_many h =
    let e = h.sooner (call 0 (0 ∷ []) ∷ []) (call 1 (0 ∷ 0 ∷ []) ∷ []) refl tt in
    let z : ◌≡◌ {A = ℕ} 0 1 = cc in
    omega arith

-- subject 0 and object 1
abbrev two : State
two = state (subject ∷ object ∷ []) []

-- refused are "a first name that is no subject at the start, or a second that is absent then": an object is neither
an-object : CellsThere (needs 0 0 1 ∷ []) two
an-object = (tt, tt, tt)

-- ---- runs that destroy no starting name
abbrev destroys_from : State → List Call → Bool
destroys_from m xs = destroys_start unbounded press m m xs

-- as each rule run meets the state that the one before left
destroys_later : destroys_from without (call 0 (0 ∷ []) ∷ call 1 (0 ∷ 0 ∷ []) ∷ call 2 (0 ∷ []) ∷ []) ≡ true
unfolding destroys_start all meets
destroys_later = refl

-- of the six operations the two destroys do, wherever in the rule, and of a name that is there
abbrev destroys_here : List Operation → Bool
destroys_here cs = destroys_any_old two (λ b. b) cs

destroys_none : destroys_here (enter 0 0 1 ∷ delete 0 0 1 ∷ create_subject 0 ∷ create_object 1 ∷ destroy_subject 2 ∷ destroy_object 2 ∷ []) ≡ false
destroys_none = refl

destroys_subject : destroys_here (enter 0 0 1 ∷ destroy_subject 0 ∷ []) ≡ true
destroys_subject = refl

destroys_object : destroys_here (enter 0 0 1 ∷ destroy_object 1 ∷ []) ≡ true
destroys_object = refl

-- one that is refused destroys nothing
refused_destroy : destroys_from without (call 2 (0 ∷ []) ∷ call 0 (0 ∷ []) ∷ []) ≡ false
unfolding destroys_start all meets any
refused_destroy = refl

-- a name that the run created is none of the start
destroys_created : destroys_from without (call 3 (1 ∷ []) ∷ call 0 (1 ∷ []) ∷ call 1 (1 ∷ 1 ∷ []) ∷ call 2 (1 ∷ []) ∷ []) ≡ false
unfolding destroys_start all meets
destroys_created = refl

-- "no finite run that destroys no starting name": with refused rule runs, and with names "from 0 up, without a bound"
a_refused_run : NeverHeld press (needs 0 0 0 ∷ []) without all_steps → ⊥
unfolding destroys_start final all meets any
a_refused_run h = h.never (call 2 (0 ∷ []) ∷ call 0 (0 ∷ []) ∷ []) (λ t. t) tt

a_large_name : NeverHeld press (needs 1 0 0 ∷ []) without all_steps → ⊥
unfolding destroys_start final all meets
a_large_name h = h.never (call 3 (100000 ∷ []) ∷ call 0 (100000 ∷ []) ∷ call 1 (0 ∷ 100000 ∷ []) ∷ []) (λ t. t) tt

fewer_steps : NeverHeld press (needs 2 0 0 ∷ []) without [] → ⊥
fewer_steps h =
    let e : [] ≡ all_steps = h.all-steps ∙ by_nothing in
    let z : ◌≡◌ {A = ℕ} 0 1 = cc in
    omega arith
