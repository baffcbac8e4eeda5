-- An access matrix over unbounded names (document 01: the state of "the printer's machine").
use Rattle.std.specs.Prelude.{Bool, true, false, ℕ}

-- "It is absent, an object, or a subject; a subject is an object too."
pub data Kind : Type 0 where
  absent object subject : Kind

abbrev pub is_object : Kind → Bool
is_object absent = false
is_object object = true
is_object subject = true

abbrev pub is_subject : Kind → Bool
is_subject absent = false
is_subject object = false
is_subject subject = true

-- "Its state tells of every whole number whether it is absent, an object that is no subject, or a subject, and gives each cell its set of rights."
-- cell s o q: right q is in the cell (s, o)
pub record State : Type 0 where
  pub kind : ℕ → Kind
  pub cell : ℕ → ℕ → ℕ → Bool

-- the name exists
abbrev pub object_in : State → ℕ → Bool
object_in m x = is_object (m.kind x)

abbrev pub subject_in : State → ℕ → Bool
subject_in m x = is_subject (m.kind x)
