-- The papers' numbers.
use Rattle.std.specs.Prelude.{ℕ}
use Rattle.refusals.specs.declared.Refusal.{Refusal}
use Rattle.refusals.specs.declared.Refusal.TheVariants.{BadHeader, UnknownCommand, CutShort, OutOfRange, WrongPhase, HeldByX, NoCopy, AllTaken, NotGranted, NoEntry, NotBegun, Finished, NoRoom}

abbrev pub number_of : Refusal → ℕ
number_of BadHeader = 1
number_of UnknownCommand = 2
number_of CutShort = 3
number_of OutOfRange = 4
number_of WrongPhase = 5
number_of HeldByX = 6
number_of NoCopy = 7
number_of AllTaken = 9
number_of NotGranted = 10
number_of NoEntry = 11
number_of NotBegun = 13
number_of Finished = 14
number_of NoRoom = 15
