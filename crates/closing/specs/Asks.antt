-- What commands ask of the four cells of two names s and o, those of their operation's parameters: number 0 is (s, s), 1 is (s, o), 2 is (o, s), 3 is (o, o).
use Rattle.std.specs.Prelude.{ℕ, ◌+◌, ◌*◌, ◌/◌, ◌%◌, ◌<◌, ◌≡◌, ◌⊎◌, Bool, true, not, ◌&&◌, List, eqb, length, get_or}
use Rattle.std.specs.Int.Bits.{bit_and}
use Rattle.cases.specs.Cases.{pick}
use Rattle.rights.specs.Rights.{has}
use Rattle.protection.specs.Limits.{names, rights}
use Rattle.commands.specs.Contents.{missing, condition_of}
use Rattle.commands.specs.declared.Command.{Command}
use Rattle.policy.specs.declared.Policy.{Policy}

-- 0 for x, 1 for y, else 2
abbrev pub side_of : ℕ → ℕ → ℕ → ℕ
side_of x y b = pick (eqb b x) 0 (pick (eqb b y) 1 2)

-- of x and y, the one on that side
abbrev pub on_side : ℕ → ℕ → ℕ → ℕ
on_side a x y = pick (eqb a 0) x y

-- the parameters of the command's operation
abbrev pub first_of : Command → ℕ
first_of c = get_or c.operation 2 0

abbrev pub second_of : Command → ℕ
second_of c = get_or c.operation 3 0

-- some condition of the command asks for right q in cell k
pub record Asks (c : Command) (k q : ℕ) : Type 0 where
  pub at : ℕ
  pub inside : at < c.conditions
  pub right_is : (condition_of c at).right ≡ q
  pub subject_is : (condition_of c at).subject ≡ on_side (k / 2) (first_of c) (second_of c)
  pub object_is : (condition_of c at).object ≡ on_side (k % 2) (first_of c) (second_of c)

-- what is set is what was set, and what command c, number i, asks for
pub record AsksMarked (c : Command) (i : ℕ) (before after : List ℕ) : Type 0 where
  pub length_is : length after ≡ 4 * rights
  pub says : (e j : ℕ) → e < 4 * rights → has (get_or after e 0) j ≡ true → (has (get_or before e 0) j ≡ true) ⊎ ((j ≡ i) × Asks c (e / rights) (e % rights))

-- a digit that is set says what a command asks for
pub record AskedBy (p : Policy) (asks : List ℕ) : Type 0 where
  pub length_is : length asks ≡ 4 * rights
  pub says : (e i : ℕ) → e < 4 * rights → has (get_or asks e 0) i ≡ true → Asks (get_or p.command i missing) (e / rights) (e % rights)

-- command i asks in cell k for a right that no right of the set carries; element q of `carriers` has those that carry q
pub record Lacks (asks carriers : List ℕ) (k set i : ℕ) : Type 0 where
  pub right : ℕ
  pub small : right < rights
  pub lacks : bit_and set (get_or carriers right 0) ≡ 0
  pub asked : has (get_or asks (rights * k + right) 0) i ≡ true

pub record LackingIn (asks carriers : List ℕ) (k set mask : ℕ) : Type 0 where
  pub says : (i : ℕ) → has mask i ≡ true → Lacks asks carriers k set i

-- in one of the four cells
pub record LacksAt (asks carriers cells : List ℕ) (s o i : ℕ) : Type 0 where
  pub cell : ℕ
  pub few : cell < 4
  pub lacks : Lacks asks carriers cell (get_or cells (names * on_side (cell / 2) s o + on_side (cell % 2) s o) 0) i

pub record LackingAt (asks carriers cells : List ℕ) (s o mask : ℕ) : Type 0 where
  pub says : (i : ℕ) → has mask i ≡ true → LacksAt asks carriers cells s o i

unfoldable pub left_in : ℕ → ℕ → ℕ → Bool
left_in which lacking i = has which i && not (has lacking i)
