-- Children one after another.
use Rattle.std.proofs.Common.{ℕ, zero, suc, List, [], ◌∷◌, ◌++◌, ◌+◌, ◌≡◌, ◌≢◌, ◌≤◌, ◌<◌, Bool, true, false, cond, nat_eq, length, get_or, take, map, refl, sym, ap, ◌∙◌, arith, append-nil, append_assoc, length-append, eq-eqb, subst, Option, Some, None, Result, Ok}
use Rattle.std.specs.List.{range_with_len, zip}
use Rattle.std.proofs.lemmas.Bool.{eqb-true, ne_eqb}
use Rattle.std.proofs.Math.Seq.{take-length}
use Rattle.std.proofs.lemmas.List.FromFn.{length-range_with_len, length-map-range_with_len, map-range_with_len_more, take-map-range_with_len}
use Rattle.hpx_ports.specs.Spawns.{End, Spawned, Start}
use Rattle.hpx_ports.specs.declared.spawner.SpawnFault.{SpawnFault}
use Rattle.hpx_launch.specs.declared.line.Launch.{Launch}
use Rattle.hpx_launch.specs.Lines.{start_of, starts_of}
use Rattle.hpx_launch.specs.Launches.{HasAnswer, HasBegun, StartsFront, WaitsFor, children_of, first_failure}

range_more : (a n : ℕ) → range_with_len a (n + 1) ≡ range_with_len a n ++ (a + n) ∷ []
range_more a zero = ap (λ k. k ∷ []) (omega arith)
range_more a (suc n) =
    let longer : suc n + 1 ≡ suc (n + 1) = omega arith in
    let same : a + 1 + n ≡ a + suc n = omega arith in
    ap (range_with_len a) longer
    ∙ ap (λ ks. a ∷ ks) (range_more (a + 1) n ∙ ap (λ k. range_with_len (a + 1) n ++ k ∷ []) same)

-- the starts of the first localities
pub first_starts : (launch : Launch) (n : ℕ) → n ≤ launch.localities → map (start_of launch) (range_with_len 0 n) ≡ take n (starts_of launch)
first_starts launch n h = sym (take-map-range_with_len (start_of launch) 0 launch.localities n h)

pub front_so : (launch : Launch) (old new : List Start) (n : ℕ) → n ≤ launch.localities → new ≡ old ++ map (start_of launch) (range_with_len 0 n)
    → StartsFront (starts_of launch) old new
front_so launch old new n h is = (n, is ∙ ap (λ starts. old ++ starts) (first_starts launch n h))

-- one more is started
pub starts_more : (launch : Launch) (old before after : List Start) (n : ℕ) → before ≡ old ++ map (start_of launch) (range_with_len 0 n)
    → after ≡ before ++ start_of launch n ∷ [] → after ≡ old ++ map (start_of launch) (range_with_len 0 (n + 1))
starts_more launch old before after n is more =
    more
    ∙ (ap (λ starts. starts ++ start_of launch n ∷ []) is
    ∙ (append_assoc old (map (start_of launch) (range_with_len 0 n)) (start_of launch n ∷ [])
    ∙ ap (λ starts. old ++ starts) (sym (map-range_with_len_more (start_of launch) 0 n n (omega arith)))))

pub children_more : (launch : Launch) (old before : List Start) (n child : ℕ) (xs ys : List ℕ) → xs ≡ range_with_len (length old) n
    → before ≡ old ++ map (start_of launch) (range_with_len 0 n) → child ≡ length before → ys ≡ xs ++ child ∷ [] → ys ≡ range_with_len (length old) (n + 1)
children_more launch old before n child xs ys so_far is at more =
    let place : child ≡ length old + n =
    omega (arith, at, ap length is, length-append old (map (start_of launch) (range_with_len 0 n)), length-map-range_with_len (start_of launch) 0 n) in
    more ∙ (ap (λ ks. ks ++ child ∷ []) so_far ∙ (ap (λ k. range_with_len (length old) n ++ k ∷ []) place ∙ sym (range_more (length old) n)))

-- no child has ended
pub zip_none : (children : List ℕ) → zip {X = ℕ} children [] ≡ []
zip_none [] = refl
zip_none (c ∷ cs) = refl

-- one more of them has ended
zip_more : (children statuses : List ℕ) (status : ℕ) → length statuses < length children
    → zip children (statuses ++ status ∷ []) ≡ zip children statuses ++ (get_or children (length statuses) 0, status) ∷ []
zip_more [] statuses status within = absurd (omega arith)
zip_more (c ∷ cs) [] status within = ap (λ ends. (c, status) ∷ ends) (zip_none cs)
zip_more (c ∷ cs) (s ∷ ss) status within = ap (λ ends. (c, s) ∷ ends) (zip_more cs ss status (omega arith))

pub ends_more : (old before after : List End) (children statuses : List ℕ) (i status : ℕ) → length statuses ≡ i → i < length children
    → before ≡ old ++ zip children statuses → after ≡ before ++ (get_or children i 0, status) ∷ [] → after ≡ old ++ zip children (statuses ++ status ∷ [])
ends_more old before after children statuses i status each within is more =
    let here : get_or children i 0 ≡ get_or children (length statuses) 0 = ap (λ k. get_or children k 0) (sym each) in
    more
    ∙ (ap (λ ends. ends ++ (get_or children i 0, status) ∷ []) is
    ∙ (append_assoc old (zip children statuses) ((get_or children i 0, status) ∷ [])
    ∙ (ap (λ k. old ++ (zip children statuses ++ (k, status) ∷ [])) here
    ∙ ap (λ ends. old ++ ends) (sym (zip_more children statuses status (omega (arith, each, within)))))))

-- the first failure, with one status more
with_one : (b : Bool) (status first s more : ℕ) → more ≡ cond (nat_eq first 0) status first → nat_eq s 0 ≡ b
    → cond b more s ≡ cond (nat_eq (cond b first s) 0) status (cond b first s)
with_one true status first s more h is = h
with_one false status first s more h is = rw is refl

first_more : (statuses : List ℕ) (status : ℕ) → first_failure (statuses ++ status ∷ []) ≡ cond (nat_eq (first_failure statuses) 0) status (first_failure statuses)
first_more [] status = alone (nat_eq status 0) refl
  where
    alone : (b : Bool) → nat_eq status 0 ≡ b → cond b 0 status ≡ status
    alone true is = sym (eqb-true status 0 is)
    alone false is = refl
first_more (s ∷ ss) status =
    with_one (nat_eq s 0) status (first_failure ss) s (first_failure (ss ++ status ∷ [])) (first_more ss status) refl

pub first_kept : (statuses : List ℕ) (status now : ℕ) → now ≡ first_failure statuses → now ≢ 0 → now ≡ first_failure (statuses ++ status ∷ [])
first_kept statuses status now is some =
    let test : nat_eq (first_failure statuses) 0 ≡ false = ne_eqb (first_failure statuses) 0 (λ zero. some (is ∙ zero)) in
    is ∙ sym (first_more statuses status ∙ ap (λ b. cond b status (first_failure statuses)) test)

pub first_new : (statuses : List ℕ) (status now : ℕ) → now ≡ first_failure statuses → now ≡ 0 → status ≡ first_failure (statuses ++ status ∷ [])
first_new statuses status now is none =
    let test : nat_eq (first_failure statuses) 0 ≡ true = eq-eqb (first_failure statuses) 0 (sym is ∙ none) in
    sym (first_more statuses status ∙ ap (λ b. cond b status (first_failure statuses)) test)

-- four words more, one after another
pub four_more : (ws ws' v1 v2 v3 v4 : List (List ℕ)) (a b c d a' b' c' d' : List ℕ) → v1 ≡ ws ++ a ∷ [] → v2 ≡ v1 ++ b ∷ [] → v3 ≡ v2 ++ c ∷ []
    → v4 ≡ v3 ++ d ∷ [] → ws ≡ ws' → a ≡ a' → b ≡ b' → c ≡ c' → d ≡ d' → v4 ≡ ws' ++ a' ∷ b' ∷ c' ∷ d' ∷ []
four_more ws ws' v1 v2 v3 v4 a b c d a' b' c' d' one two three four same ea eb ec ed =
    let all : v4 ≡ (((ws' ++ a' ∷ []) ++ b' ∷ []) ++ c' ∷ []) ++ d' ∷ [] = cc in all ∙ simp append_assoc

-- ---- a whole launch

-- nothing was done yet
pub begun_none : (asked : Option Launch) (x : Spawned) → HasBegun asked x x
begun_none None x = refl
begun_none (Some launch) x = record {
  count = 0;
  statuses = [];
  started = sym (append-nil x.started);
  ended = sym (ap (λ ends. x.ended ++ ends) (zip_none (children_of launch x)) ∙ append-nil x.ended);
  in_turn = λ some. absurd (omega arith);
}

-- the first children were started, and none has ended
pub begun_front : (asked : Option Launch) (launch : Launch) (x z : Spawned) → asked ≡ Some launch → StartsFront (starts_of launch) x.started z.started
    → z.ended ≡ x.ended → HasBegun asked x z
begun_front asked launch x z asks front none =
    subst (λ o. HasBegun o x z) (sym asks) (record {
      count = front.0;
      statuses = [];
      started = front.1;
      ended = none ∙ sym (ap (λ ends. x.ended ++ ends) (zip_none (children_of launch x)) ∙ append-nil x.ended);
      in_turn = λ some. absurd (omega arith);
    })

length_starts : (launch : Launch) → length (starts_of launch) ≡ launch.localities
length_starts launch = length-map-range_with_len (start_of launch) 0 launch.localities

-- all were started, and some have ended
module _ (asked : Option Launch) (launch : Launch) (x mid z : Spawned) (children : List ℕ) (asks : asked ≡ Some launch)
    (are : children ≡ children_of launch x) (started : mid.started ≡ x.started ++ starts_of launch) (none : mid.ended ≡ x.ended)
    (still : z.started ≡ mid.started) where
  ends_of : (answer : Result ℕ SpawnFault) (waits : WaitsFor children answer mid.ended z.ended) → z.ended ≡ x.ended ++ zip (children_of launch x) waits.statuses
  ends_of answer waits = waits.ended ∙ (ap (λ ends. ends ++ zip children waits.statuses) none ∙ ap (λ ks. x.ended ++ zip ks waits.statuses) are)

  pub begun_all : (answer : Result ℕ SpawnFault) → WaitsFor children answer mid.ended z.ended → HasBegun asked x z
  begun_all answer waits =
      subst (λ o. HasBegun o x z) (sym asks) (record {
        count = length (starts_of launch);
        statuses = waits.statuses;
        started = still ∙ (started ∙ ap (λ starts. x.started ++ starts) (sym (take-length (starts_of launch))));
        ended = ends_of answer waits;
        in_turn = λ some. omega (arith, length_starts launch);
      })

  pub answered_all : (answer : ℕ) → WaitsFor children (Ok answer) mid.ended z.ended → z.faults ≡ x.faults → HasAnswer asked answer x z
  answered_all answer waits calm = record {
    launch = launch;
    asks = asks;
    statuses = waits.statuses;
    each = waits.each ∙ (ap length are ∙ length-range_with_len (length x.started) launch.localities);
    started = still ∙ started;
    ended = ends_of (Ok answer) waits;
    first = waits.answers;
    calm = calm;
  }
