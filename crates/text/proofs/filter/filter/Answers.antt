use Rattle.std.proofs.Common.{◌≡◌, ℕ, List, [], ◌++◌, take, Some, None, Ok, Err, Option, Result, ◌∙◌}
use Rattle.std.specs.Option.{IfSome, option_map}
use Rattle.std.specs.Prelude.{OnOk}
use Rattle.text.proofs.filter.filter.Goals as goal

-- what was read is a front of what was to be read, where that is known
read : (known : Option (List ℕ)) (n : ℕ) (before items text : List ℕ) → before ≡ [] → text ≡ items → IfSome (option_map (take n) known) (λ xs. items ≡ before ++ xs) → IfSome known (λ bytes. text ≡ take n bytes)
read None n before items text e t h = tt
read (Some bytes) n before items text e t h = t ∙ rw e at h

on_ok : {X E : Type 0} (r : Result X E) (P Q : Type 0) → (P → Q) → OnOk r P → OnOk r Q
on_ok (Ok x) P Q f h = f h
on_ok (Err e) P Q f h = tt

pub returns : goal.returns
returns g c =
    let limited = c.take.ensures in
    let front = read (g.R.Read.remaining c.take.result.inner) c.take.result.limit c.new-text.result.items c.read_to_end.new.buf.items c.as_slice.result.now c.new-text.ensures.items c.as_slice.ensures.value c.in_ok-read_to_end.ensures.bytes in
    on_ok c.write_all.result _ _
    (λ grown. (c.as_slice.result, c.in_ok-answer.answer, rw (limited.limit, limited.inner) at front, c.in_ok-answer.ensures, rw c.as_slice-2.ensures.value at grown))
    c.write_all.ensures.bytes
