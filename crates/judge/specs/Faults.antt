-- The numbers of the faults.
use Rattle.std.specs.Prelude.{ℕ}
use Rattle.judge.specs.declared.fault.Fault.{Fault}
use Rattle.judge.specs.declared.fault.Fault.TheVariants.{NotThere, PassedTooOften, TooManyOlder, NotEmpty, NotFull}

abbrev pub fault_number : Fault → ℕ
fault_number NotThere = 1
fault_number PassedTooOften = 2
fault_number TooManyOlder = 3
fault_number NotEmpty = 4
fault_number NotFull = 5
