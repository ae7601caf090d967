-- A line that is taken out, changed and laid back.
use Rattle.std.proofs.Common.{ℕ, ◌≡◌, ◌≢◌, List, [], ◌∷◌, ◌++◌, Option, Some, refl, sym, ap, ◌∙◌, inl, inr}
use Rattle.hpx_agas.specs.declared.record.Record.{Record}
use Rattle.hpx_agas.specs.declared.line.Line.{Line}
use Rattle.hpx_agas.specs.Lines.{Each, line_of, in_place, blank}
use Rattle.hpx_agas.proofs.LinesLemmas.{same_or_not, line_hit, line_miss, place_hit, place_miss, line_number}

module _ {Q : Type 0} where
  -- a line of these parts
  abbrev pub line_with : ℕ → Option Record → List Q → Line Q
  line_with n live queue = record { number = n; live = live; queue = queue }

  pub blank_is : (n : ℕ) (live : Option Record) (l : Line Q) → l.number ≡ n → live ≡ l.live → line_with n live [] ≡ blank l
  blank_is n live l en el = ap (λ k. line_with k live []) (sym en) ∙ ap (λ r. line_with l.number r []) el

  -- the line that was placed is found
  pub line_placed : (n : ℕ) (made : Line Q → Line Q) (l : Line Q) (ls : List (Line Q)) → ((k : Line Q) → k.number ≡ n → (made k).number ≡ n) → line_of n ls ≡ Some l
      → line_of n (in_place n (λ k. made k ∷ []) ls) ≡ Some (made l)
  line_placed n made l [] f h = cc
  line_placed n made l (x ∷ xs) f h = elim (same_or_not x.number n) [
    | inl e ↦
        let same : Some x ≡ Some l = sym (line_hit n x xs e) ∙ h in
        let is : x ≡ l = cc in
        ap (line_of n) (place_hit n (λ k. made k ∷ []) x xs e) ∙ line_hit n (made x) xs (f x e) ∙ ap (λ k. Some (made k)) is
    | inr away ↦ ap (line_of n) (place_miss n (λ k. made k ∷ []) x xs away) ∙ line_miss n x _ away ∙ line_placed n made l xs f (sym (line_miss n x xs away) ∙ h)
  ]

  -- the others are found as before
  pub line_apart : (o : ℕ) (ms ls : List (Line Q)) → Each (λ m. m.number ≢ o) ms → line_of o (ms ++ ls) ≡ line_of o ls
  line_apart o [] ls h = refl
  line_apart o (m ∷ ms) ls h = line_miss o m (ms ++ ls) h.0 ∙ line_apart o ms ls h.1

  behind : (o : ℕ) (x : Line Q) (xs ys : List (Line Q)) → line_of o xs ≡ line_of o ys → line_of o (x ∷ xs) ≡ line_of o (x ∷ ys)
  behind o x xs ys h = elim (same_or_not x.number o) [
    | inl s ↦ line_hit o x xs s ∙ sym (line_hit o x ys s)
    | inr s ↦ line_miss o x xs s ∙ h ∙ sym (line_miss o x ys s)
  ]

  pub line_other : (o n : ℕ) (made : Line Q → List (Line Q)) (ls : List (Line Q)) → o ≢ n → ((l : Line Q) → l.number ≡ n → Each (λ m. m.number ≢ o) (made l))
      → line_of o (in_place n made ls) ≡ line_of o ls
  line_other o n made [] away f = refl
  line_other o n made (x ∷ xs) away f = elim (same_or_not x.number n) [
    | inl e ↦ ap (line_of o) (place_hit n made x xs e) ∙ line_apart o (made x) xs (f x e) ∙ sym (line_miss o x xs (λ s. away (sym s ∙ e)))
    | inr off ↦ ap (line_of o) (place_miss n made x xs off) ∙ behind o x (in_place n made xs) xs (line_other o n made xs away f)
  ]

  -- what is placed is what is made of the line that was there
  pub place_known : (n : ℕ) (made : Line Q → List (Line Q)) (l : Line Q) (ls : List (Line Q)) → line_of n ls ≡ Some l → in_place n (λ _. made l) ls ≡ in_place n made ls
  place_known n made l [] h = refl
  place_known n made l (x ∷ xs) h = elim (same_or_not x.number n) [
    | inl e ↦
        let same : Some x ≡ Some l = sym (line_hit n x xs e) ∙ h in
        let is : x ≡ l = cc in
        place_hit n (λ _. made l) x xs e ∙ ap (λ k. made k ++ xs) (sym is) ∙ sym (place_hit n made x xs e)
    | inr away ↦ place_miss n (λ _. made l) x xs away ∙ ap (λ k. x ∷ k) (place_known n made l xs (sym (line_miss n x xs away) ∙ h)) ∙ sym (place_miss n made x xs away)
  ]

  -- what was placed first makes no odds
  pub place_twice : (n : ℕ) (b : Line Q) (made : List (Line Q)) (ls : List (Line Q)) → b.number ≡ n → in_place n (λ _. made) (in_place n (λ _. b ∷ []) ls) ≡ in_place n (λ _. made) ls
  place_twice n b made [] e = refl
  place_twice n b made (x ∷ xs) e = elim (same_or_not x.number n) [
    | inl hit ↦ ap (in_place n (λ _. made)) (place_hit n (λ _. b ∷ []) x xs hit) ∙ place_hit n (λ _. made) b xs e ∙ sym (place_hit n (λ _. made) x xs hit)
    | inr away ↦
        ap (in_place n (λ _. made)) (place_miss n (λ _. b ∷ []) x xs away)
        ∙ place_miss n (λ _. made) x _ away ∙ ap (λ k. x ∷ k) (place_twice n b made xs e) ∙ sym (place_miss n (λ _. made) x xs away)
  ]

  -- a line is taken out, and what it became is laid back
  pub laid_back : (n : ℕ) (made : Line Q → Line Q) (l m : Line Q) (ls : List (Line Q)) → line_of n ls ≡ Some l → m ≡ made l → m.number ≡ n
      → in_place m.number (λ _. m ∷ []) (in_place n (λ _. blank l ∷ []) ls) ≡ in_place n (λ k. made k ∷ []) ls
  laid_back n made l m ls h is en =
      ap (λ k. in_place k (λ _. m ∷ []) (in_place n (λ _. blank l ∷ []) ls)) en
      ∙ place_twice n (blank l) (m ∷ []) ls (line_number n l ls h)
      ∙ ap (λ k. in_place n (λ _. k ∷ []) ls) is
      ∙ place_known n (λ k. made k ∷ []) l ls h

  -- where a line was taken out, one without items is found
  pub lifted : (n : ℕ) (l : Line Q) (ls new : List (Line Q)) → line_of n ls ≡ Some l → new ≡ in_place n (λ _. blank l ∷ []) ls → line_of l.number new ≡ Some (blank l)
  lifted n l ls new h is =
      let e = line_number n l ls h in
      ap (line_of l.number) is ∙ ap (λ k. line_of k (in_place n (λ _. blank l ∷ []) ls)) e ∙ line_placed n (λ _. blank l) l ls (λ k _. e) h
