-- What a commit makes stands as it was made, behind what stood before.
use Rattle.hpx_steps.proofs.Common.{AllByRecursion, AreMade, Birth, Bool, Id, IsBirth, List, Make, Standing, State, [], all_append, ap, append_assoc, arith, bare, bare_id, bare_standing, bare_state, birth_of, birth_state, cases_Bool, false, find, ids_of, is_standing, map, map-append, objects_of, refl, same_object-refl, same_object-true, subst, sym, true, ℕ, ◌++◌, ◌+◌, ◌<◌, ◌∙◌, ◌∷◌, ◌≡◌, ◌≤◌}

-- it has a number that was drawn, if it was born here
abbrev pub Drawn : ℕ → ℕ → Standing → Type 0
Drawn here n x = 16 ≤ x.object.kind → x.object.home ≡ here → x.object.number ≤ n

pub bare_alone : (s : State) → s.ids ≡ [] → bare_state s ≡ s
bare_alone s none = ap (λ ids. record { drawn = s.drawn; values = s.values; conts = s.conts; ids = ids }) (ap (map bare) none ∙ sym none)

-- what is made shows no credit
bare_made : (here n : ℕ) (xs : List Birth) → AllByRecursion IsBirth xs → map bare_standing (objects_of here n xs) ≡ objects_of here n xs
bare_made here n [] h = refl
bare_made here n (x ∷ xs) h = grind (arith, bare_alone, bare_made here (n + 1) xs h.1)

find_past : (p : Standing → Bool) (xs ys : List Standing) → AllByRecursion (λ x. p x ≡ false) xs → find p (xs ++ ys) ≡ find p ys
find_past p [] ys h = refl
find_past p (x ∷ xs) ys h = let e = h.0 in rw e (find_past p xs ys h.1)

-- what has a later number is none of these
other_than : (here n : ℕ) (o : Id) → 16 ≤ o.kind → o.home ≡ here → n < o.number → (xs : List Standing) → AllByRecursion (Drawn here n) xs → AllByRecursion (λ x. is_standing o x ≡ false) xs
other_than here n o managed home late [] h = tt
other_than here n o managed home late (x ∷ xs) h = grind (arith, cases_Bool, same_object-true, other_than here n o managed home late xs h.1)

are_made : (here n log : ℕ) (makes : List Make) (before : List Standing) → AllByRecursion IsBirth (map birth_of makes) → AllByRecursion (Drawn here n) before
    → AreMade makes (map bare (ids_of here n log (map birth_of makes))) (before ++ objects_of here n (map birth_of makes))
are_made here n log [] before fit drawn = tt
are_made here n log (make ∷ makes) before fit drawn =
    let o : Id = bare_id here make.kind (n + 1) in
    let new : Standing = record { object = bare_id here make.kind (n + 1); state = birth_state make } in
    let rest : List Standing = objects_of here (n + 1) (map birth_of makes) in
    let past : find (is_standing (bare_id here make.kind (n + 1))) (before ++ (new ∷ objects_of here (n + 1) (map birth_of makes)))
    ≡ find (is_standing (bare_id here make.kind (n + 1))) (new ∷ objects_of here (n + 1) (map birth_of makes)) =
    find_past (is_standing o) before (new ∷ rest) (other_than here n o fit.0.least refl (omega arith) before drawn) in
    let own : is_standing (bare_id here make.kind (n + 1)) new ≡ true = same_object-refl o in (
      refl,
      past ∙ rw own refl,
      subst (AreMade makes (map bare (ids_of here (n + 1) log (map birth_of makes)))) (append_assoc before (new ∷ []) rest) (are_made here (n + 1) log makes (before ++ new ∷ []) fit.1
          (all_append (Drawn here (n + 1)) before (new ∷ []) (more before drawn) ((λ managed home. omega arith), tt))),
    )
  where
    more : (xs : List Standing) → AllByRecursion (Drawn here n) xs → AllByRecursion (Drawn here (n + 1)) xs
    more [] h = tt
    more (x ∷ xs) h = ((λ managed home. let low = h.0 managed home in omega (arith, low)), more xs h.1)

bare_drawn : (here n : ℕ) (xs : List Standing) → AllByRecursion (Drawn here n) xs → AllByRecursion (Drawn here n) (map bare_standing xs)
bare_drawn here n [] h = tt
bare_drawn here n (x ∷ xs) h = (h.0, bare_drawn here n xs h.1)

pub made_so : (here n log : ℕ) (makes : List Make) (before : List Standing) → AllByRecursion IsBirth (map birth_of makes) → AllByRecursion (Drawn here n) before
    → AreMade makes (map bare (ids_of here n log (map birth_of makes))) (map bare_standing (before ++ objects_of here n (map birth_of makes)))
made_so here n log makes before fit drawn = grind (arith, map-append, bare_made, are_made, bare_drawn)
