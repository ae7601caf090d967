-- What a member keeps as its journal and its trace grow.
use Rattle.std.proofs.Common.{true, false, ℕ, zero, suc, List, [], ◌∷◌, ◌++◌, ◌≡◌, ◌<◌, ◌≤◌, refl, sym, ap, ◌∙◌, subst, arith, inl, inr, length, take, drop, append-nil, append_assoc, Option, Some, None}
use Rattle.std.specs.Prelude.{◌==◌, ◌⊎◌, reverse}
use Rattle.std.specs.List.{AllByRecursion, flat_map}
use Rattle.std.proofs.lemmas.List.{take-append-le, drop-append-le, length-append, reverse-append, reverse-reverse}
use Rattle.std.specs.Int.{from_be_bytes, w32, w64}
use Rattle.std.proofs.Math.Seq.{take-append_seam, drop-append_seam, take-length, drop-length}
use Rattle.std.proofs.lemmas.Bool.{eq-eqb, eqb-true, cases_lt, cases_Bool}
use Rattle.hpx_journal.specs.Entries.{Rules}
use Rattle.hpx_part.specs.Data.{Entry, Event, In, Line, Name, Out}
use Rattle.hpx_part.specs.Parts.{at_boot}
use Rattle.hpx_journal.specs.Whole.{arrives, IsClean}
use Rattle.hpx_journal.specs.Laws.{outs, ins, outs_by, AreAt}
use Rattle.hpx_ports.specs.declared.link.Post.{Post}
use Rattle.hpx_ports.specs.declared.link.Post.TheVariants.{Sent, Received}
use Rattle.hpx_ports.specs.Told.{followed}
use Rattle.hpx_ended.specs.Waves.{IsAtRest, MayAnswer, Wakes, BeginsAwake}
use Rattle.hpx_member.specs.Bodies.{is_counts, is_frame, counts_of, frame_sent, frame_got, frames_sent, frames_got, told_by}
use Rattle.hpx_member.specs.declared.bodies.Told.{Told}
use Rattle.hpx_member.specs.Seats.{IsToldAt, IsAbove, TellsNext, AreTold, IsStill, IsTraced, IsSeated, IsInside, BeginsBy}

-- ---- lists

pub flat-append : {X Y : Type 0} (f : X → List Y) (xs ys : List X) → flat_map f (xs ++ ys) ≡ flat_map f xs ++ flat_map f ys
flat-append f [] ys = refl
flat-append f (x ∷ xs) ys = ap (λ zs. f x ++ zs) (flat-append f xs ys) ∙ sym (append_assoc (f x) (flat_map f xs) (flat_map f ys))

pub flat-one : {X Y : Type 0} (f : X → List Y) (xs : List X) (x : X) → flat_map f (xs ++ x ∷ []) ≡ flat_map f xs ++ f x
flat-one f xs x = flat-append f xs (x ∷ []) ∙ ap (λ zs. flat_map f xs ++ zs) (append-nil (f x))

pub outs-append : (xs ys : List Entry) → outs (xs ++ ys) ≡ outs xs ++ outs ys
outs-append xs ys = flat-append (λ e. outs_by e.at e.event) xs ys

pub ins-append : (xs ys : List Entry) → ins (xs ++ ys) ≡ ins xs ++ ins ys
ins-append xs ys = flat-append arrives xs ys

pub all-append : {X : Type 0} (P : X → Type 0) (xs ys : List X) → AllByRecursion P xs → AllByRecursion P ys → AllByRecursion P (xs ++ ys)
all-append P [] ys h i = i
all-append P (x ∷ xs) ys h i = (h.0, all-append P xs ys h.1 i)

-- ---- answers that were given stay right as the journal grows

pub awake-append : (xs later : List Entry) → (xs ≡ [] → BeginsAwake later) → BeginsAwake xs → BeginsAwake (xs ++ later)
awake-append [] later h w = h refl
awake-append (x ∷ xs) later h w = w

drop_nothing : {X : Type 0} (n : ℕ) (xs : List X) → n ≤ length xs → drop n xs ≡ [] → length xs ≤ n
drop_nothing zero [] h e = omega arith
drop_nothing zero (x ∷ xs) h e = absurd (cc)
drop_nothing (suc n) [] h e = omega arith
drop_nothing (suc n) (x ∷ xs) h e = omega (arith, drop_nothing n xs (omega arith) e)

-- nothing is behind what is as long
pub none_later : (es later : List Entry) → length (es ++ later) ≤ length es → later ≡ []
none_later es [] h = refl
none_later es (x ∷ later) h = absurd (omega (arith, h, length-append es (x ∷ later)))

module _ (r : Rules) (k : ℕ) (es later : List Entry) where
  pub may_grow : (n : ℕ) → n ≤ length es → (length es ≤ n → BeginsAwake later) → MayAnswer r k es n → MayAnswer r k (es ++ later) n
  may_grow n within woken may = record {
    rest = subst (IsAtRest r k) (sym (take-append-le n es later within)) may.rest;
    next = subst BeginsAwake (sym (drop-append-le n es later within))
        (awake-append (drop n es) later (λ none. woken (drop_nothing n es within none)) may.next);
  }

  told_at_grows : (earlier : List Post) (c : Told) (n : ℕ) → (length es ≤ n → BeginsAwake later) → IsToldAt r k es earlier c n
      → IsToldAt r k (es ++ later) earlier c n
  told_at_grows earlier c n woken told = record {
    within = omega (arith, told.within, length-append es later);
    sent = told.sent ∙ ap (λ zs. length (outs zs)) (sym (take-append-le n es later told.within));
    taken = told.taken ∙ ap (λ zs. length (ins zs)) (sym (take-append-le n es later told.within));
    gone = told.gone;
    came = told.came;
    may = λ clean. may_grow n told.within woken
        (told.may (subst (IsClean r (at_boot r k)) (take-append-le n es later told.within) clean));
  }

  -- the first length, if there is one, is behind the last entry only where what comes begins with a line or a frame
  abbrev pub Woken : List ℕ → Type 0
  Woken [] = Unit {0}
  Woken (n ∷ ns) = length es ≤ n → BeginsAwake later

  woken_below : (n : ℕ) (ns : List ℕ) → IsAbove ns n → (length es ≤ n → BeginsAwake later) → Woken ns
  woken_below n [] above h = tt
  woken_below n (m ∷ ns) above h = λ i. h (omega (arith, i, above))

  next_map : (At At' : Told → ℕ → Type 0) (Rest Rest' : List ℕ → Type 0) (c : Option Told) (ns : List ℕ) → Woken ns
      → ((c : Told) (n : ℕ) → (length es ≤ n → BeginsAwake later) → At c n → At' c n)
      → ((ms : List ℕ) → Woken ms → Rest ms → Rest' ms) → TellsNext At Rest c ns → TellsNext At' Rest' c ns
  next_map At At' Rest Rest' None ns woken at rest told = rest ns woken told
  next_map At At' Rest Rest' (Some c) [] woken at rest told = absurd told
  next_map At At' Rest Rest' (Some c) (n ∷ ns) woken at rest told =
      (at c n woken told.0, told.1, rest ns (woken_below n ns told.1 woken) told.2)

  pub told_grow : (tr : List Post) (ns : List ℕ) → Woken ns → AreTold r k es tr ns → AreTold r k (es ++ later) tr ns
  told_grow [] ns woken told = told
  told_grow (x ∷ earlier) ns woken told =
      next_map (IsToldAt r k es earlier) (IsToldAt r k (es ++ later) earlier) (AreTold r k es earlier) (AreTold r k (es ++ later) earlier)
      (told_by x) ns woken (λ c n h at. told_at_grows earlier c n h at) (λ ms h rest. told_grow earlier ms h rest) told

-- ---- a post more that tells nothing

pub frame_tells : (body : List ℕ) → is_frame body ≡ true → counts_of body ≡ None
frame_tells [] h = refl
frame_tells (f ∷ bytes) h = elim (cases_Bool (f == 241)) [
  | inl is ↦ absurd (let e : f ≡ 241 = eqb-true f 241 is in let odd : is_frame (241 ∷ bytes) ≡ true = subst (λ g. is_frame (g ∷ bytes) ≡ true) e h in cc)
  | inr other ↦ rw other refl
]

told_more : (r : Rules) (k : ℕ) (es : List Entry) (tr : List Post) (x : Post) (ns : List ℕ) → told_by x ≡ None
    → AreTold r k es (reverse tr) ns → AreTold r k es (reverse (tr ++ x ∷ [])) ns
told_more r k es tr x ns none told =
    subst (λ ys. AreTold r k es ys ns) (sym (reverse-append tr (x ∷ [])))
    (subst (λ c. TellsNext (IsToldAt r k es (reverse tr)) (AreTold r k es (reverse tr)) c ns) (sym none) told)

-- ---- calls

module _ (r : Rules) (k : ℕ) (idle idle' : Type 0) (es es' : List Entry) where
  -- the member had nothing to do and wrote nothing, or it had something to do
  pub seated_act : (rest : List (ℕ × List ℕ)) (trace : Option (List Post)) → IsSeated r k idle es rest trace → IsInside k es es'
      → (idle → idle' × (es' ≡ es)) → IsSeated r k idle' es' rest trace
  seated_act rest trace seated inside still = record {
    own = subst (AreAt k) (sym inside.is) (all-append (λ e. e.at ≡ k) es inside.later seated.own inside.own);
    traced = λ tr t. acted tr (seated.traced tr t);
  }
    where
      outs_same : outs es' ≡ outs es
      outs_same = ap outs inside.is ∙ (outs-append es inside.later ∙ (ap (λ zs. outs es ++ zs) inside.outs ∙ append-nil (outs es)))

      ins_same : ins es' ≡ ins es
      ins_same = ap ins inside.is ∙ (ins-append es inside.later ∙ (ap (λ zs. ins es ++ zs) inside.ins ∙ append-nil (ins es)))

      acted : (tr : List Post) → IsTraced r k idle es rest tr → IsTraced r k idle' es' rest tr
      acted tr x = with_lengths tr x x.lengths x.told x.still
        where
          with_lengths : (tr : List Post) → IsTraced r k idle es rest tr → (ns : List ℕ) → AreTold r k es (reverse tr) ns
              → IsStill ns (length es) idle → IsTraced r k idle' es' rest tr
          with_lengths tr x [] told s = record {
            sent = x.sent ∙ sym outs_same;
            came = x.came ∙ ap (λ zs. zs ++ rest) (sym ins_same);
            lengths = [];
            told = subst (λ zs. AreTold r k zs (reverse tr) []) (sym inside.is) (told_grow r k es inside.later (reverse tr) [] tt told);
            still = tt;
          }
          with_lengths tr x (n ∷ ns) told s = elim (cases_lt n (length es)) [
            | inl i ↦ record {
              sent = x.sent ∙ sym outs_same;
              came = x.came ∙ ap (λ zs. zs ++ rest) (sym ins_same);
              lengths = n ∷ ns;
              told = subst (λ zs. AreTold r k zs (reverse tr) (n ∷ ns)) (sym inside.is)
                  (told_grow r k es inside.later (reverse tr) (n ∷ ns) (λ j. absurd (omega (arith, i, j))) told);
              still = λ j. absurd (omega (arith, i, j, ap length inside.is, length-append es inside.later));
            }
            | inr i ↦
                let u : idle' × (es' ≡ es) = still (s i) in
                record {
                  sent = x.sent ∙ sym outs_same;
                  came = x.came ∙ ap (λ zs. zs ++ rest) (sym ins_same);
                  lengths = n ∷ ns;
                  told = subst (λ zs. AreTold r k zs (reverse tr) (n ∷ ns)) (sym u.1) told;
                  still = λ j. u.0;
                }
          ]

next_within : (At : Told → ℕ → Type 0) (Rest : List ℕ → Type 0) (m : ℕ) → ((c : Told) (n : ℕ) → At c n → n ≤ m)
    → ((n : ℕ) (ns : List ℕ) → Rest (n ∷ ns) → n ≤ m) → (c : Option Told) (n : ℕ) (ns : List ℕ) → TellsNext At Rest c (n ∷ ns) → n ≤ m
next_within At Rest m at rest None n ns told = rest n ns told
next_within At Rest m at rest (Some c) n ns told = at c n told.0

-- each was told behind some of the entries
told_within : (r : Rules) (k : ℕ) (es : List Entry) (tr : List Post) (n : ℕ) (ns : List ℕ) → AreTold r k es tr (n ∷ ns) → n ≤ length es
told_within r k es [] n ns told = absurd (cc)
told_within r k es (x ∷ earlier) n ns told =
    next_within (IsToldAt r k es earlier) (AreTold r k es earlier) (length es) (λ c m at. at.within)
    (λ m ms rest. told_within r k es earlier m ms rest) (told_by x) n ns told

-- what begins with a line or a frame, or comes where there was something to do
module _ (r : Rules) (k : ℕ) (idle idle' : Type 0) (e : Event) (es es' : List Entry) (writes : BeginsBy k e es es') where
  abbrev more : List Entry
  more = record { at = k; event = e } ∷ writes.later

  longer : length es < length es'
  longer = omega (arith, ap length writes.is, length-append es more)

  abbrev IsRoused : Type 0
  IsRoused = Wakes e ⊎ (idle → ⊥)

  own_grows : AreAt k es → AreAt k es'
  own_grows own = subst (AreAt k) (sym writes.is) (all-append (λ x. x.at ≡ k) es more own (refl, writes.own))

  outs_grow : outs es' ≡ outs es ++ outs_by k e
  outs_grow =
      ap outs writes.is
      ∙ (outs-append es more
      ∙ ap (λ zs. outs es ++ zs) (ap (λ zs. outs_by k e ++ zs) writes.outs ∙ append-nil (outs_by k e)))

  ins_grow : ins es' ≡ ins es ++ arrives (record { at = k; event = e })
  ins_grow =
      ap ins writes.is
      ∙ (ins-append es more
      ∙ ap (λ zs. ins es ++ zs) (ap (λ zs. arrives (record { at = k; event = e }) ++ zs) writes.ins ∙ append-nil (arrives (record { at = k; event = e }))))

  told_roused : (tr : List Post) (ns : List ℕ) → IsRoused → AreTold r k es tr ns → IsStill ns (length es) idle → AreTold r k es' tr ns
  told_roused tr [] roused told still =
      subst (λ zs. AreTold r k zs tr []) (sym writes.is) (told_grow r k es more tr [] tt told)
  told_roused tr (n ∷ ns) (inl wakes) told still =
      subst (λ zs. AreTold r k zs tr (n ∷ ns)) (sym writes.is) (told_grow r k es more tr (n ∷ ns) (λ j. wakes) told)
  told_roused tr (n ∷ ns) (inr busy) told still =
      subst (λ zs. AreTold r k zs tr (n ∷ ns)) (sym writes.is) (told_grow r k es more tr (n ∷ ns) (λ j. absurd (busy (still j))) told)

  above : (tr : List Post) (ns : List ℕ) → AreTold r k es tr ns → IsStill ns (length es') idle'
  above tr [] told = tt
  above tr (n ∷ ns) told = λ j. absurd (omega (arith, j, longer, told_within r k es tr n ns told))

pub seated_pump : (r : Rules) (k : ℕ) (idle idle' : Type 0) (es es' : List Entry) (trace : Option (List Post)) (to : ℕ) (frame : List ℕ)
    → IsSeated r k idle es [] trace → BeginsBy k (Out to frame) es es' → is_frame frame ≡ true → (idle → ⊥)
    → IsSeated r k idle' es' [] (followed trace (Sent to frame ∷ []))
seated_pump r k idle idle' es es' None to frame seated writes fr busy = record {
  own = own_grows r k idle idle' (Out to frame) es es' writes seated.own;
  traced = λ tr t. absurd (cc);
}
seated_pump r k idle idle' es es' (Some old) to frame seated writes fr busy = record {
  own = own_grows r k idle idle' (Out to frame) es es' writes seated.own;
  traced = λ tr t. subst (IsTraced r k idle' es' []) (some_is (old ++ Sent to frame ∷ []) tr t) pumped;
}
  where
    some_is : (a b : List Post) → Some a ≡ Some b → a ≡ b
    some_is a b h = cc

    x : IsTraced r k idle es [] old
    x = seated.traced old refl

    one : frame_sent k (Sent to frame) ≡ (k, (to, frame)) ∷ []
    one = rw fr refl

    pumped : IsTraced r k idle' es' [] (old ++ Sent to frame ∷ [])
    pumped = record {
      sent = flat-one (frame_sent k) old (Sent to frame) ∙ (ap (λ zs. zs ++ frame_sent k (Sent to frame)) x.sent
          ∙ (ap (λ zs. outs es ++ zs) one ∙ sym (outs_grow r k idle idle' (Out to frame) es es' writes)));
      came = flat-one (frame_got k) old (Sent to frame) ∙ (ap (λ zs. zs ++ []) x.came
          ∙ (ap (λ zs. zs ++ []) (append-nil (ins es)) ∙ ap (λ zs. zs ++ []) (sym (append-nil (ins es)) ∙ sym (ins_grow r k idle idle' (Out to frame) es es' writes))));
      lengths = x.lengths;
      told = told_more r k es' old (Sent to frame) x.lengths (frame_tells frame fr)
          (told_roused r k idle idle' (Out to frame) es es' writes (reverse old) x.lengths (inr busy) x.told x.still);
      still = above r k idle idle' (Out to frame) es es' writes (reverse old) x.lengths x.told;
    }

-- ---- a post more

module _ (r : Rules) (k : ℕ) (idle : Type 0) (es : List Entry) where
  pub seated_heard : (trace : Option (List Post)) (from : ℕ) (body : List ℕ) → IsSeated r k idle es [] trace → is_frame body ≡ true
      → IsSeated r k idle es ((k, body) ∷ []) (followed trace (Received from body ∷ []))
  seated_heard None from body seated fr = record { own = seated.own; traced = λ tr t. absurd (cc) }
  seated_heard (Some old) from body seated fr =
      record { own = seated.own; traced = λ tr t. subst (IsTraced r k idle es ((k, body) ∷ [])) (same old body tr t) heard }
    where
      same : (old : List Post) (body : List ℕ) (tr : List Post) → Some (old ++ Received from body ∷ []) ≡ Some tr → old ++ Received from body ∷ [] ≡ tr
      same old body tr h = cc

      x : IsTraced r k idle es [] old
      x = seated.traced old refl

      one : frame_got k (Received from body) ≡ (k, body) ∷ []
      one = rw fr refl

      heard : IsTraced r k idle es ((k, body) ∷ []) (old ++ Received from body ∷ [])
      heard = record {
        sent = flat-one (frame_sent k) old (Received from body) ∙ (append-nil (frames_sent k old) ∙ x.sent);
        came = flat-one (frame_got k) old (Received from body) ∙ (ap (λ zs. zs ++ frame_got k (Received from body)) (x.came ∙ append-nil (ins es))
            ∙ ap (λ zs. ins es ++ zs) one);
        lengths = x.lengths;
        told = told_more r k es old (Received from body) x.lengths refl x.told;
        still = x.still;
      }

  pub seated_control : (trace : Option (List Post)) (from : ℕ) (body : List ℕ) → IsSeated r k idle es [] trace → is_frame body ≡ false
      → IsSeated r k idle es [] (followed trace (Received from body ∷ []))
  seated_control None from body seated fr = record { own = seated.own; traced = λ tr t. absurd (cc) }
  seated_control (Some old) from body seated fr =
      record { own = seated.own; traced = λ tr t. subst (IsTraced r k idle es []) (same old body tr t) heard }
    where
      same : (old : List Post) (body : List ℕ) (tr : List Post) → Some (old ++ Received from body ∷ []) ≡ Some tr → old ++ Received from body ∷ [] ≡ tr
      same old body tr h = cc

      x : IsTraced r k idle es [] old
      x = seated.traced old refl

      none : frame_got k (Received from body) ≡ []
      none = rw fr refl

      heard : IsTraced r k idle es [] (old ++ Received from body ∷ [])
      heard = record {
        sent = flat-one (frame_sent k) old (Received from body) ∙ (append-nil (frames_sent k old) ∙ x.sent);
        came = flat-one (frame_got k) old (Received from body) ∙ (ap (λ zs. frames_got k old ++ zs) none
            ∙ (append-nil (frames_got k old) ∙ x.came));
        lengths = x.lengths;
        told = told_more r k es old (Received from body) x.lengths refl x.told;
        still = x.still;
      }

  -- a word of control was sent that tells no numbers
  pub seated_said : (trace : Option (List Post)) (to : ℕ) (body : List ℕ) → IsSeated r k idle es [] trace → is_frame body ≡ false → counts_of body ≡ None
      → IsSeated r k idle es [] (followed trace (Sent to body ∷ []))
  seated_said None to body seated fr silent = record { own = seated.own; traced = λ tr t. absurd (cc) }
  seated_said (Some old) to body seated fr silent =
      record { own = seated.own; traced = λ tr t. subst (IsTraced r k idle es []) (same old body tr t) said }
    where
      same : (old : List Post) (body : List ℕ) (tr : List Post) → Some (old ++ Sent to body ∷ []) ≡ Some tr → old ++ Sent to body ∷ [] ≡ tr
      same old body tr h = cc

      x : IsTraced r k idle es [] old
      x = seated.traced old refl

      none : frame_sent k (Sent to body) ≡ []
      none = rw fr refl

      said : IsTraced r k idle es [] (old ++ Sent to body ∷ [])
      said = record {
        sent = flat-one (frame_sent k) old (Sent to body) ∙ (ap (λ zs. frames_sent k old ++ zs) none ∙ (append-nil (frames_sent k old) ∙ x.sent));
        came = flat-one (frame_got k) old (Sent to body) ∙ (append-nil (frames_got k old) ∙ x.came);
        lengths = x.lengths;
        told = told_more r k es old (Sent to body) x.lengths silent x.told;
        still = x.still;
      }

pub seated_take : (r : Rules) (k : ℕ) (idle idle' : Type 0) (es es' : List Entry) (trace : Option (List Post)) (body : List ℕ)
    → IsSeated r k idle es ((k, body) ∷ []) trace → BeginsBy k (In body) es es' → IsSeated r k idle' es' [] trace
seated_take r k idle idle' es es' trace body seated writes = record {
  own = own_grows r k idle idle' (In body) es es' writes seated.own;
  traced = λ tr t. taken tr (seated.traced tr t);
}
  where
    taken : (tr : List Post) → IsTraced r k idle es ((k, body) ∷ []) tr → IsTraced r k idle' es' [] tr
    taken tr x = record {
      sent = x.sent ∙ sym (outs_grow r k idle idle' (In body) es es' writes ∙ append-nil (outs es));
      came = x.came ∙ (sym (ins_grow r k idle idle' (In body) es es' writes) ∙ sym (append-nil (ins es')));
      lengths = x.lengths;
      told = told_roused r k idle idle' (In body) es es' writes (reverse tr) x.lengths (inl tt) x.told x.still;
      still = above r k idle idle' (In body) es es' writes (reverse tr) x.lengths x.told;
    }

-- a line is fed
pub seated_fed : (r : Rules) (k : ℕ) (idle idle' : Type 0) (es es' : List Entry) (trace : Option (List Post)) (a : Name) (bytes : List ℕ)
    → IsSeated r k idle es [] trace → BeginsBy k (Line a bytes) es es' → IsSeated r k idle' es' [] trace
seated_fed r k idle idle' es es' trace a bytes seated writes = record {
  own = own_grows r k idle idle' (Line a bytes) es es' writes seated.own;
  traced = λ tr t. fed tr (seated.traced tr t);
}
  where
    fed : (tr : List Post) → IsTraced r k idle es [] tr → IsTraced r k idle' es' [] tr
    fed tr x = record {
      sent = x.sent ∙ sym (outs_grow r k idle idle' (Line a bytes) es es' writes ∙ append-nil (outs es));
      came = x.came ∙ ap (λ zs. zs ++ []) (sym (ins_grow r k idle idle' (Line a bytes) es es' writes ∙ append-nil (ins es)));
      lengths = x.lengths;
      told = told_roused r k idle idle' (Line a bytes) es es' writes (reverse tr) x.lengths (inl tt) x.told x.still;
      still = above r k idle idle' (Line a bytes) es es' writes (reverse tr) x.lengths x.told;
    }

-- ---- numbers that are told

pub counts_is : (body : List ℕ) (c : Told) → counts_of body ≡ Some c → is_frame body ≡ false
counts_is body c h = elim (cases_Bool (is_frame body)) [ inl t ↦ absurd (none (frame_tells body t)) | inr f ↦ f ]
  where
    none : counts_of body ≡ None → ⊥
    none e = cc

module _ (r : Rules) (k : ℕ) (idle : Type 0) (es : List Entry) (now : idle)
    (rest : IsClean r (at_boot r k) es → IsAtRest r k es) where
  pub seated_answer : (trace : Option (List Post)) (to : ℕ) (body : List ℕ) (c : Told) → IsSeated r k idle es [] trace
      → counts_of body ≡ Some c → c.sent ≡ length (outs es) → c.taken ≡ length (ins es)
      → IsSeated r k idle es [] (followed trace (Sent to body ∷ []))
  seated_answer None to body c seated counts sent taken = record { own = seated.own; traced = λ tr t. absurd (cc) }
  seated_answer (Some old) to body c seated counts sent taken =
      record { own = seated.own; traced = λ tr t. subst (IsTraced r k idle es []) (same old body tr t) told }
    where
      same : (old : List Post) (body : List ℕ) (tr : List Post) → Some (old ++ Sent to body ∷ []) ≡ Some tr → old ++ Sent to body ∷ [] ≡ tr
      same old body tr h = cc

      x : IsTraced r k idle es [] old
      x = seated.traced old refl

      none : frame_sent k (Sent to body) ≡ []
      none = rw (counts_is body c counts) refl

      at : IsToldAt r k es (reverse old) c (length es)
      at = record {
        within = omega arith;
        sent = sent ∙ ap (λ zs. length (outs zs)) (sym (take-length es));
        taken = taken ∙ ap (λ zs. length (ins zs)) (sym (take-length es));
        gone = sent ∙ (ap length (sym x.sent) ∙ ap (λ zs. length (frames_sent k zs)) (sym (reverse-reverse old)));
        came = taken ∙ (ap length (sym (x.came ∙ append-nil (ins es))) ∙ ap (λ zs. length (frames_got k zs)) (sym (reverse-reverse old)));
        may = λ clean. record {
          rest = subst (IsAtRest r k) (sym (take-length es)) (rest (subst (IsClean r (at_boot r k)) (take-length es) clean));
          next = subst BeginsAwake (sym (drop-length es)) tt;
        };
      }

      below : (ns : List ℕ) → AreTold r k es (reverse old) ns → IsAbove ns (length es)
      below [] t = tt
      below (n ∷ ns) t = told_within r k es (reverse old) n ns t

      more_told : AreTold r k es (reverse (old ++ Sent to body ∷ [])) (length es ∷ x.lengths)
      more_told =
          subst (λ ys. AreTold r k es ys (length es ∷ x.lengths)) (sym (reverse-append old (Sent to body ∷ [])))
          (subst (λ d. TellsNext (IsToldAt r k es (reverse old)) (AreTold r k es (reverse old)) d (length es ∷ x.lengths)) (sym counts)
          (at, below x.lengths x.told, x.told))

      told : IsTraced r k idle es [] (old ++ Sent to body ∷ [])
      told = record {
        sent = flat-one (frame_sent k) old (Sent to body) ∙ (ap (λ zs. frames_sent k old ++ zs) none ∙ (append-nil (frames_sent k old) ∙ x.sent));
        came = flat-one (frame_got k) old (Sent to body) ∙ (append-nil (frames_got k old) ∙ x.came);
        lengths = length es ∷ x.lengths;
        told = more_told;
        still = λ j. now;
      }

-- ---- numbers are read as they were written

pub counts_read : (a b c : List ℕ) (w s t : ℕ) → length a ≡ 4 → length b ≡ 8 → length c ≡ 8 → from_be_bytes w32 a ≡ w → from_be_bytes w64 b ≡ s
    → from_be_bytes w64 c ≡ t → counts_of (241 ∷ (a ++ (b ++ c))) ≡ Some (record { wave = w; sent = s; taken = t })
counts_read a b c w s t la lb lc ea eb ec =
    let long : length (a ++ (b ++ c)) ≡ 20 = omega (arith, length-append a (b ++ c), length-append b c) in
    let first : take 4 (a ++ (b ++ c)) ≡ a = subst (λ n. take n (a ++ (b ++ c)) ≡ a) la (take-append_seam a (b ++ c)) in
    let rest : drop 4 (a ++ (b ++ c)) ≡ b ++ c = subst (λ n. drop n (a ++ (b ++ c)) ≡ b ++ c) la (drop-append_seam a (b ++ c)) in
    let second : take 8 (b ++ c) ≡ b = subst (λ n. take n (b ++ c) ≡ b) lb (take-append_seam b c) in
    let third : drop 8 (b ++ c) ≡ c = subst (λ n. drop n (b ++ c) ≡ c) lb (drop-append_seam b c) in
    let test : is_counts (241 ∷ (a ++ (b ++ c))) ≡ true = eq-eqb (length (a ++ (b ++ c))) 20 long in
    rw test (ap (λ x. Some x) (made (from_be_bytes w32 (take 4 (a ++ (b ++ c)))) w (from_be_bytes w64 (take 8 (drop 4 (a ++ (b ++ c))))) s
    (from_be_bytes w64 (drop 8 (drop 4 (a ++ (b ++ c))))) t
    (ap (from_be_bytes w32) first ∙ ea) (ap (λ x. from_be_bytes w64 (take 8 x)) rest ∙ (ap (from_be_bytes w64) second ∙ eb))
    (ap (λ x. from_be_bytes w64 (drop 8 x)) rest ∙ (ap (from_be_bytes w64) third ∙ ec))))
  where
    made : (x w y s z t : ℕ) → x ≡ w → y ≡ s → z ≡ t
        → ◌≡◌ {A = Told} (record { wave = x; sent = y; taken = z }) (record { wave = w; sent = s; taken = t })
    made x w y s z t e f g = cc
