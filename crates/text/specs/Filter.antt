-- What a program writes that answers its input. Assumes nothing.
use Rattle.std.specs.Prelude.{◌≡◌, ℕ, ◌+◌, List, take, Ok, IfSome, Option, Result}
use Rattle.std.specs.Borrow.{Bor}
use Rattle.std.specs.Io.KnownBytes.{Appends}
use Rattle.std.specs.declared.alloc.AllocError.{AllocError}
use Rattle.std.specs.declared.alloc.Global.{Global}
use Rattle.std.specs.declared.vec.Vec.{Vec}
use Rattle.text.specs.Input.{max_input}

-- what the writer holds grows by an answer to what the reader had, as far as a byte past the bound; it says nothing of a side whose bytes are not known
abbrev pub Answered : (Bor (List ℕ) → Result (Vec ℕ Global) AllocError → Type 0) → Option (List ℕ) → Option (List ℕ) → Option (List ℕ) → Type 0
Answered post input old new =
    (text : Bor (List ℕ)) × (answer : Vec ℕ Global)
    × IfSome input (λ bytes. text.now ≡ take (max_input + 1) bytes) × post text (Ok answer) × Appends old new answer.items
