-- Why a line is refused.
use Rattle.std.specs.Prelude.{ℕ, List, ◌++◌, codes, decimal}
use Rattle.text.specs.declared.line.Reason.{Reason}
use Rattle.text.specs.declared.line.Reason.TheVariants.{Unreadable, NotDue, TooLong}
use Rattle.text.specs.declared.line.BadLine.{BadLine}

-- 19: the line cannot be read; 20: it is not the header line that is due; 21: it has more than 80 bytes
abbrev pub code : Reason → ℕ
code Unreadable = 19
code NotDue = 20
code TooLong = 21

-- line n is refused
abbrev pub refusal : ℕ → Reason → BadLine
refusal n why = record { line = n; reason = why }

-- the refusal as text: the line and the number
abbrev pub bad_line_text : BadLine → List ℕ
bad_line_text bad = decimal bad.line ++ (codes ":" ++ decimal (code bad.reason))
