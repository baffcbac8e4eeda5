-- The enum `Refusal` as the numbers of document 01, "Refused, by whom", and of document 02. 0 is no refusal.
use Rattle.std.specs.Prelude.{ℕ, Result, Ok, Err}
use Rattle.refusals.specs.declared.Refusal.{Refusal}
use Rattle.refusals.specs.declared.Refusal.TheVariants.{FileLength, RightCount, PairCount, SectionPlace, SectionLength, KindByte, CellRights, CommandCounts, CommandParts, CarriedRights, NoCommand, Actuals, Conditions, Operations, TraceLength, NoRight, SeveralOperations, TooManyNames, ShortBuffer, NeededCells, TrustedNames, LongSheet}

abbrev pub number_of : Refusal → ℕ
number_of FileLength = 1
number_of RightCount = 2
number_of PairCount = 3
number_of SectionPlace = 4
number_of SectionLength = 5
number_of KindByte = 6
number_of CellRights = 7
number_of CommandCounts = 8
number_of CommandParts = 9
number_of CarriedRights = 44
number_of NoCommand = 11
number_of Actuals = 12
number_of Conditions = 14
number_of Operations = 15
number_of TraceLength = 31
number_of NoRight = 21
number_of SeveralOperations = 22
number_of TooManyNames = 23
number_of ShortBuffer = 24
number_of NeededCells = 41
number_of TrustedNames = 42
number_of LongSheet = 43

-- the number of what a function refuses, or 0 where it refuses nothing
abbrev pub code : {A : Type 0} → Result A Refusal → ℕ
code (Ok x) = 0
code (Err r) = number_of r
