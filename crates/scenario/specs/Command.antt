-- The command lines of a scenario.
use Rattle.std.specs.Prelude.{◌≡◌, ℕ, List, ◌∷◌, ◌++◌, Some, None, Ok, Err, codes, Option, Result}
use Rattle.std.specs.Borrow.{Bor}
use Rattle.text.specs.Refusal.{refusal}
use Rattle.text.specs.declared.line.BadLine.{BadLine}
use Rattle.text.specs.declared.line.Reason.TheVariants.{Unreadable}
use Rattle.scenario.specs.Written.{Number32}
use Rattle.scenario.specs.declared.command.Command.{Command}
use Rattle.scenario.specs.declared.command.Command.TheVariants.{Put, Take, Step, Run, Collect}
use Rattle.scenario.specs.declared.command.Turn.{Turn}

-- a thread, and behind a colon (58) what is so
pub record ThreadAnd (bs : List ℕ) (thread : ℕ) (Behind : List ℕ → Type 0) : Type 0 where
  pub before : List ℕ
  pub behind : List ℕ
  pub cut : bs ≡ before ++ 58 ∷ behind
  pub thread_is : Number32 before thread
  pub behind_is : Behind behind

abbrev pub TurnWritten : List ℕ → Turn → Type 0
TurnWritten bs turn = ThreadAnd bs turn.thread (λ rest. Number32 rest turn.start)

-- the word of each command
abbrev pub word : {E : Type 0} → Command E → List ℕ
word (Put thread x) = codes "put"
word (Take thread) = codes "take"
word (Step turn) = codes "step"
word (Run turn) = codes "run"
word (Collect thread) = codes "collect"

-- what follows the word; written: which bytes write which element
abbrev pub Arguments : {E : Type 0} → (List ℕ → E → Type 0) → List ℕ → Command E → Type 0
Arguments written bs (Put thread x) = ThreadAnd bs thread (λ rest. written rest x)
Arguments written bs (Take thread) = Number32 bs thread
Arguments written bs (Step None) = bs ≡ codes "flat"
Arguments written bs (Step (Some turn)) = TurnWritten bs turn
Arguments written bs (Run turn) = TurnWritten bs turn
Arguments written bs (Collect thread) = Number32 bs thread

-- the line of a command: its word, a = (61), and what follows
abbrev pub Writes : {E : Type 0} → (List ℕ → E → Type 0) → List ℕ → Command E → Type 0
Writes written bs c = (rest : List ℕ) × ((bs ≡ word c ++ 61 ∷ rest) × Arguments written rest c)

abbrev pub ThreadRead : List ℕ → Option (ℕ × Bor (List ℕ)) → Type 0
ThreadRead bs (Some p) = ThreadAnd bs p.0 (λ rest. rest ≡ p.1.now)
ThreadRead bs None = (thread : ℕ) (rest : List ℕ) → ThreadAnd bs thread (λ l. l ≡ rest) → ⊥

abbrev pub CommandRead : {E : Type 0} → (List ℕ → E → Type 0) → List ℕ → ℕ → Result (Command E) BadLine → Type 0
CommandRead written bs line (Ok c) = Writes written bs c
CommandRead {E} written bs line (Err bad) = ((c : Command E) → Writes written bs c → ⊥) × (bad ≡ refusal line Unreadable)
