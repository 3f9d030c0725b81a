-- Lists that fit the calls so far, as one more list stands behind them and as one is made for the next call. Assumes nothing.
use Rattle.std.proofs.Common.{◌≡◌, ℕ, zero, suc, ◌+◌, ◌<◌, ◌≤◌, List, [], ◌∷◌, ◌++◌, map, length, get_or, take, set, sym, refl, ap, ◌∙◌, subst, ⊎_elim, arith}
use lib.ListN.{length-map}
use Rattle.runs.specs.declared.run.Handed.{Handed}
use Rattle.runs.specs.declared.run.Handed.TheVariants.{Own, Numbered}
use Rattle.runs.specs.declared.run.Step.{Step}
use Rattle.std.proofs.ByRecursion.{All-more, All-weaker}
use Rattle.std.proofs.lemmas.List.{get_or-set_other, get_or-set_same, map-append, map-set, take_all}
use Rattle.std.proofs.lemmas.Bool.{cases_eq}
use Rattle.std.specs.List.{AllByRecursion, FoldsTo}
use Rattle.strip.specs.declared.patch.Patch.{Patch}
use Rattle.striptext.specs.Session.{Fits, FitsAs}
use Rattle.striptext.proofs.Sized.{fits-as-long}

-- empty lists stood past the last before they were put there
empty-behind : {X : Type 0} (lists more : List (List X)) (n : ℕ) → AllByRecursion (λ l. l ≡ []) more → get_or (lists ++ more) n [] ≡ get_or lists n []
empty-behind [] [] n none = refl
empty-behind [] (m ∷ more) zero none = none.0
empty-behind [] (m ∷ more) (suc n) none = empty-behind [] more n none.1
empty-behind (l ∷ lists) more zero none = refl
empty-behind (l ∷ lists) more (suc n) none = empty-behind lists more n none

-- list n is made anew, with n cells
module _ (lists : List (List Patch)) (n : ℕ) (new : List Patch) (full : length new ≡ n) (lt : n < length lists) where
  made-full : length (get_or (set lists n new) n []) ≡ n
  made-full = ap length (get_or-set_same lists n new [] lt) ∙ full

  made-fits : (list : Handed) → FitsAs lists list → FitsAs (set lists n new) list
  made-fits Own fits = tt
  made-fits (Numbered k) fits =
      ⊎_elim
      (λ same. subst (λ j. length (get_or (set lists n new) j []) ≡ j) (sym same) made-full)
      (λ apart. ap length (get_or-set_other lists n k new [] apart) ∙ fits)
      (cases_eq k n)

module _ {V : Type 0} (items : V → List Patch) where
  abbrev pub Fit : List V → List Step → Type 0
  Fit vs steps = AllByRecursion (Fits (map items vs)) steps

  -- where each step makes an empty list, they are empty
  pub all-empty : {P : Type 0} (R : P → V → P → Type 0) → ((p : P) (v : V) (q : P) → R p v q → items v ≡ []) → (more : List V) (p q : P) → FoldsTo R p more q
      → AllByRecursion (λ l. l ≡ []) (map items more)
  all-empty R each [] p q made = tt
  all-empty R each (v ∷ more) p q made = (each p v made.0 made.1, all-empty R each more made.0 q made.2)

  -- empty lists are put behind those that there are
  pub grown-fit : (vs vs' more : List V) (n : ℕ) (steps : List Step) → vs' ≡ take n vs ++ more → length vs ≤ n → AllByRecursion (λ l. l ≡ []) (map items more)
      → Fit vs steps → Fit vs' steps
  grown-fit vs vs' more n steps grown most none fit =
      let are : map items vs' ≡ map items vs ++ map items more = ap (map items) (grown ∙ ap (λ l. l ++ more) (take_all n vs most)) ∙ map-append items vs more in
      subst (λ lists. AllByRecursion (Fits lists) steps) (sym are)
      (All-weaker _ _ (λ t. fits-as-long (map items vs) (map items vs ++ map items more) (λ k. ap length (empty-behind (map items vs) (map items more) k none)) t.list) steps fit)

  -- the next call names list n, which is made anew
  module _ (vs : List V) (steps : List Step) (i : ℕ) (none : Step) (lt : i < length steps) (fit : Fit vs (take i steps)) where
    pub made-fit : (n : ℕ) (v : V) → (get_or steps i none).list ≡ Numbered n → n < length vs → length (items v) ≡ n → Fit (set vs n v) (take (i + 1) steps)
    made-fit n v is within full =
        let inside : n < length (map items vs) = omega (arith, length-map vs items) in
        rw map-set
        (All-more (Fits (set (map items vs) n (items v))) steps i none lt
        (All-weaker _ _ (λ t. made-fits (map items vs) n (items v) full inside t.list) (take i steps) fit)
        (subst (FitsAs (set (map items vs) n (items v))) (sym is) (made-full (map items vs) n (items v) full inside)))
