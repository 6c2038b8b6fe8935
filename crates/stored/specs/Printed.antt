-- The lines that are printed of a stored history.
use Rattle.std.specs.Prelude.{◌≡◌, ℕ, List, [], ◌∷◌, ◌++◌, Ok, Err, codes, decimal, Result}
use Rattle.history.specs.Refusals.{refusal_text}
use Rattle.history.specs.declared.refusal.Refusal.{Refusal}
use Rattle.judge.specs.VerdictText.{verdict_text}
use Rattle.text.specs.Refusal.{bad_line_text}
use Rattle.text.specs.declared.line.BadLine.{BadLine}
use Rattle.stored.specs.declared.report.Replay.{Replay}
use Rattle.stored.specs.declared.report.Replay.TheVariants as replay
use Rattle.stored.specs.declared.report.Report.{Report}
use Rattle.stored.specs.declared.fault.Fault.{Fault}
use Rattle.stored.specs.declared.fault.Fault.TheVariants.{Bad, Refused, Memory}
use Rattle.stored.specs.Report.{Reported}

-- each line ends with byte 10
abbrev pub newline : List ℕ
newline = 10 ∷ []

abbrev pub replay_text : Replay → List ℕ
replay_text replay.Whole = codes "ok"
replay_text (replay.Stops e) = decimal e
replay_text replay.Overlap = codes "overlap"

abbrev pub bad_text : BadLine → List ℕ
bad_text bad = codes "bad=" ++ (bad_line_text bad ++ newline)

abbrev pub refused_text : Refusal → List ℕ
refused_text r = codes "refused=" ++ (refusal_text r ++ newline)

abbrev pub report_text : Report → List ℕ
report_text r = codes "events=" ++ (decimal r.events ++ (newline ++ codes "verdict=" ++ (verdict_text r.verdict ++ (newline ++ codes "replay=" ++ (replay_text r.replay ++ newline)))))

-- of a report or a fault; want of memory prints nothing
abbrev pub text : Result Report Fault → List ℕ
text (Ok r) = report_text r
text (Err (Bad bad)) = bad_text bad
text (Err (Refused r)) = refused_text r
text (Err Memory) = []

-- these bytes are printed of the input: they are the text of what is reported of it, and memory was not wanting
pub record Prints (input bytes : List ℕ) : Type 0 where
  pub found : Result Report Fault
  pub reports : Reported input found
  pub enough : found ≡ Err Memory → ⊥
  pub says : bytes ≡ text found
