-- What a polynomial's coefficients are: an array of bit patterns, each turned into a number. Assumes nothing.
use Rattle.std.proofs.Common.{◌≡◌, ◌<◌, List, length, map, sym, ◌∙◌, subst}
use Rattle.std.proofs.lemmas.List.{same_lists, length-map, get_or-map}
use Rattle.std.specs.Array.{IsMapOf}
use Rattle.std.specs.Fn.{Called}
use denote.Param.Members.{Mut}

-- an array's `map`, where each call answers h
pub mapped : {F A B : Type 0} {g : Mut F (A × Unit {0}) B} {f : F} {xs : List A} {ys : List B} (h : A → B) (d : A) → IsMapOf g f xs ys (length xs)
    → ((p : F) (x : A) (y : B) (q : F) → Called g p (x, tt) y q → y ≡ h x) → ys ≡ map h xs
mapped {xs = xs} {ys} h d m says =
    same_lists ys (map h xs) (m.long ∙ sym (length-map xs h))
    (λ k e l. let i = subst (λ n. k < n) m.long l in let c = m.at k d e i in says c.0 _ _ c.1 c.2 ∙ sym (get_or-map h xs k d e i))
