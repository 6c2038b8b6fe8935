-- The sequential specification of a k-FIFO queue: which states a call may lead to. An element is enqueued at the end;
-- a dequeue gives nothing where the queue is empty, or its oldest element, or a later one within the window; nothing else is a call.
use Rattle.std.specs.Prelude.{◌≡◌, ℕ, ◌+◌, ◌<◌, ◌⊎◌, List, [], ◌∷◌, ◌++◌, length}
use Rattle.window.specs.Queue.{Queue}

module _ {E : Type 0} where
  abbrev pub Enqueues : Queue E → E → Queue E → Type 0
  Enqueues s e t = (t.q ≡ s.q ++ e ∷ []) × (t.w ≡ s.w)

  abbrev pub DequeuesNothing : ℕ → Queue E → Queue E → Type 0
  DequeuesNothing k s t = (s.q ≡ []) × ((t.q ≡ []) × (t.w ≡ k))

  abbrev pub DequeuesOldest : ℕ → Queue E → E → Queue E → Type 0
  DequeuesOldest k s e t = (s.q ≡ e ∷ t.q) × (t.w ≡ k)

  pub record DequeuesLater (s : Queue E) (e : E) (t : Queue E) : Type 0 where
    pub older : List E
    pub younger : List E
    pub some_older : 0 < length older
    pub within : length older < s.w
    pub was : s.q ≡ older ++ e ∷ younger
    pub left : t.q ≡ older ++ younger
    pub narrower : t.w + 1 ≡ s.w

  abbrev pub Dequeues : ℕ → Queue E → E → Queue E → Type 0
  Dequeues k s e t = DequeuesOldest k s e t ⊎ DequeuesLater s e t
