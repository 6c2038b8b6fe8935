-- A verdict as text: sound, or the fault and its event.
use Rattle.std.specs.Prelude.{ℕ, List, ◌++◌, codes, decimal}
use Rattle.judge.specs.Faults.{fault_number}
use Rattle.judge.specs.declared.verdict.Verdict.{Verdict}
use Rattle.judge.specs.declared.verdict.Verdict.TheVariants.{Sound, Fault}

abbrev pub verdict_text : Verdict → List ℕ
verdict_text Sound = codes "sound"
verdict_text (Fault f e) = decimal (fault_number f) ++ (codes ":" ++ decimal e)
