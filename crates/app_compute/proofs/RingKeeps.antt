-- Actions on a session that steps a ring keep the laws.
use Rattle.std.specs.Prelude.{ℕ, zero, suc, ℤ, pos, true, false, nat_le, nat_lt, List, [], ◌∷◌, ◌++◌, ◌≡◌, ◌≢◌, ◌+◌, ◌-◌, ◌*◌, ◌/◌, ◌<◌, ◌≤◌, ◌==◌, ◌&&◌, Option, Some, None, IfSome, length, map, flat_map, refl, if◌then◌else◌}
use Rattle.std.specs.List.{AllByRecursion, count_by}
use Rattle.std.proofs.Common.{sym, ap, ◌∙◌, subst, arith, lit≤, inl, inr, length-append}
use Rattle.std.proofs.Math.Nat.{mod-lt, div-le_self, div-mul-le_self}
use Rattle.std.proofs.lemmas.Bool.{cond_both, and_parts, leb-true}
use Rattle.std.proofs.lemmas.List.{length-map}
use Rattle.hpx_value.specs.Ids.{Id, bare}
use Rattle.hpx_value.specs.Values.{refs_in, bare_state, bare_act, named, message_of}
use Rattle.hpx_value.specs.Shapes.{IsValue, IsAct, IsState, IsMessage, IsCount, listed, values_size}
use Rattle.hpx_value.specs.Hands.{hand_ids, hand_slots, id_at, renumbered, sent}
use Rattle.hpx_value.specs.Mentions.{mentions, send_mentions}
use Rattle.hpx_value.specs.Laws.{KeepsLaws, UsesEachOnce, IsTarget, uses, is_made_slot, handed_on, made_slots, drawn_slots}
use Rattle.hpx_value.proofs.Kept.{counted_below, few_roots}
use Rattle.hpx_calls.proofs.Keeps.{all_append, count-append, once_counted}
use Rattle.hpx_calls.specs.Contents.{is_none}
use Rattle.app_compute.specs.Types.{Value, Nothing, Flag, Int, Text, Ref, Fault, Ints, Cont, State, Act, Sending}
use Rattle.app_compute.specs.declared.shape.Shape.{Shape}
use Rattle.app_compute.specs.declared.ring.Part.{Part}
use Rattle.app_compute.specs.declared.ring.Ring.{Ring}
use Rattle.app_compute.specs.Acts.{is_empty, refused}
use Rattle.app_compute.specs.Ring.{first_of, joined, last_of, last_or, points_from, row_text}
use Rattle.app_compute.specs.Session.{spoken}
use Rattle.app_compute.specs.Stencil.{ring_in, ring_out, shape_of}
use Rattle.app_compute.specs.StencilSession
use Rattle.app_compute.specs.Texts.{fault_text}
use Rattle.app_compute.proofs.PlainKeeps.{none_left}
use Rattle.app_compute.proofs.RingBounds.{IsShape, shape_bounds}
use Rattle.app_compute.proofs.RingReads.{listed_place, part_places, AreSized, refs_parts, places_few, parts_few, parts_fit, IsRead, ring_read, IsAfter, parts_answered, cleared_many, cleared_places, cleared_sized, rows_many, first_many}
use Rattle.app_compute.proofs.SessionKeeps.{IsShort, answer_short, refused_keeps, says_keeps, unused}

-- ---- values whose Refs are numbered anew

length-renumbered : (n : ℕ) (vs : List Value) → length (renumbered n vs) ≡ length vs
length-renumbered n [] = refl
length-renumbered n (Ref p ∷ vs) = ap suc (length-renumbered (n + 1) vs)
length-renumbered n (_ ∷ vs) = ap suc (length-renumbered n vs)

counted : (n : ℕ) (vs : List Value) → IsCount n (refs_in (renumbered n vs))
counted n [] = tt
counted n (Ref p ∷ vs) = (refl, counted (n + 1) vs)
counted n (_ ∷ vs) = counted n vs

refs-renumbered : (n : ℕ) (vs : List Value) → length (refs_in (renumbered n vs)) ≡ length (refs_in vs)
refs-renumbered n [] = refl
refs-renumbered n (Ref p ∷ vs) = ap suc (refs-renumbered (n + 1) vs)
refs-renumbered n (_ ∷ vs) = refs-renumbered n vs

each-renumbered : (n : ℕ) (vs : List Value) → AllByRecursion IsValue vs → AllByRecursion IsValue (renumbered n vs)
each-renumbered n [] h = tt
each-renumbered n (Ref p ∷ vs) h = (tt, each-renumbered (n + 1) vs h.1)
each-renumbered n (_ ∷ vs) h = (h.0, each-renumbered n vs h.1)

size-renumbered : (n : ℕ) (vs : List Value) → values_size (renumbered n vs) ≡ values_size vs
size-renumbered n [] = refl
size-renumbered n (Ref p ∷ vs) = ap (λ k. 17 + k) (size-renumbered (n + 1) vs)
size-renumbered n (Nothing ∷ vs) = ap (λ k. 1 + k) (size-renumbered n vs)
size-renumbered n (Flag b ∷ vs) = ap (λ k. 2 + k) (size-renumbered n vs)
size-renumbered n (Int z ∷ vs) = ap (λ k. 9 + k) (size-renumbered n vs)
size-renumbered n (Text t ∷ vs) = ap (λ k. (3 + length t) + k) (size-renumbered n vs)
size-renumbered n (Fault c ∷ vs) = ap (λ k. 2 + k) (size-renumbered n vs)
size-renumbered n (Ints zs ∷ vs) = ap (λ k. (3 + length zs * 8) + k) (size-renumbered n vs)

-- a session's state without continuations
state_fits : (drawn : ℕ) (vs : List Value) (hand : List Id) → AllByRecursion IsValue vs → length vs ≤ 1024 → length (refs_in vs) ≤ 128 → values_size vs ≤ 64000
    → IsState (record { drawn = drawn; values = renumbered 0 vs; conts = []; ids = map (id_at hand) (refs_in vs) ++ [] })
state_fits drawn vs hand each few refs short =
    let long = length-renumbered 0 vs in
    let many = refs-renumbered 0 vs in
    let size = size-renumbered 0 vs in
    let ids = length-append (map (id_at hand) (refs_in vs)) [] in
    let mapped = length-map (refs_in vs) (id_at hand) in
    record {
      values = record { few = omega arith; each = each-renumbered 0 vs each };
      refs = counted 0 vs;
      conts = tt;
      ids = omega arith;
      few = omega arith;
      short = omega arith;
    }

-- ---- what a ring is kept with

-- parts of one size, whose objects are in the hand, none more than twice
record IsKept (limit : ℕ) (x : Ring) : Type 0 where
  rows : AreSized x.size x.parts
  few : length x.parts ≤ 32
  short : x.size * length x.parts ≤ 1024
  size : x.size ≤ 1024
  below : AllByRecursion (λ p. p < limit) (part_places x.parts)
  rare : (place : ℕ) → count_by (λ p. p == place) (part_places x.parts) ≤ 2

-- what is sent: answers go to the slots from one on, and objects are those of parts
record AreCalls (n limit slot : ℕ) (s : State) (a : Act) (xs : List Sending) : Type 0 where
  below : AllByRecursion (λ p. p < limit) (flat_map (send_mentions s a) xs)
  many : length (flat_map (send_mentions s a) xs) ≤ length xs
  owned : handed_on xs ≡ []
  made : made_slots xs ≡ []
  drawn : IsCount slot (drawn_slots xs)
  count : length (drawn_slots xs) ≡ length xs
  messages : (made : List Id) → AllByRecursion (λ x. IsMessage (sent s a made x)) xs
  codes : AllByRecursion (λ x. (x.code ≢ 3) × (x.code ≢ 4)) xs
  moves : AllByRecursion (λ x. x.code ≢ 1) xs
  roots : AllByRecursion (λ x. IsTarget n x.target) xs

no_counts : (make slot : ℕ) → count_by (is_made_slot make slot) [] ≤ 1
no_counts make slot = lit≤ tt

never_moved : (P : Sending → Type 0) (xs : List Sending) → AllByRecursion (λ x. x.code ≢ 1) xs → AllByRecursion (λ x. x.code ≡ 1 → P x) xs
never_moved P [] h = tt
never_moved P (x ∷ xs) h = ((λ e. absurd (h.0 e)), never_moved P xs h.1)

-- ---- parts are asked for

length-points : (first count : ℕ) → length (points_from first count) ≡ count
length-points first zero = refl
length-points first (suc count) = ap suc (length-points (first + 1) count)

no_calls : (n limit slot : ℕ) (s : State) (a : Act) → AreCalls n limit slot s a []
no_calls n limit slot s a = record {
  below = tt;
  many = lit≤ tt;
  owned = refl;
  made = refl;
  drawn = tt;
  count = refl;
  messages = λ made. tt;
  codes = tt;
  moves = tt;
  roots = tt;
}

new_message : (n slot size q : ℕ) (s : State) (a : Act) (made : List Id) → size ≤ 1024 → IsMessage (sent s a made (StencilSession.new_call n slot size q))
new_message n slot size q s a made small =
    let long = length-points (q * size) size in
    record { values = record { few = lit≤ tt; each = (lit≤ tt, (omega arith, tt)) }; refs = tt; few_refs = lit≤ tt; cont = (refl, tt); ids = refl; short = omega arith }

new_are : (n limit slot size q count : ℕ) (s : State) (a : Act) → 1 ≤ n → size ≤ 1024 → AreCalls n limit slot s a (StencilSession.new_calls n slot size q count)
new_are n limit slot size q zero s a some small = no_calls n limit slot s a
new_are n limit slot size q (suc count) s a some small =
    let rest = new_are n limit (slot + 1) size (q + 1) count s a some small in
    let many = rest.many in
    record {
      below = rest.below;
      many = omega arith;
      owned = rest.owned;
      made = rest.made;
      drawn = (refl, rest.drawn);
      count = ap suc rest.count;
      messages = λ made. (new_message n slot size q s a made small, rest.messages made);
      codes = (((λ x. cc), (λ x. cc)), rest.codes);
      moves = ((λ x. cc), rest.moves);
      roots = (inr (inl refl, mod-lt q some), rest.roots);
    }

new_none : (n slot size q count : ℕ) (s : State) (a : Act) → flat_map (send_mentions s a) (StencilSession.new_calls n slot size q count) ≡ []
new_none n slot size q zero s a = refl
new_none n slot size q (suc count) s a = new_none n (slot + 1) size (q + 1) count s a

new_many : (n slot size q count : ℕ) → length (StencilSession.new_calls n slot size q count) ≡ count
new_many n slot size q zero = refl
new_many n slot size q (suc count) = ap suc (new_many n (slot + 1) size (q + 1) count)

blank_places : (count : ℕ) → part_places (StencilSession.blank_parts count) ≡ []
blank_places zero = refl
blank_places (suc count) = blank_places count

blank_many : (count : ℕ) → length (StencilSession.blank_parts count) ≡ count
blank_many zero = refl
blank_many (suc count) = ap suc (blank_many count)

blank_sized : (size count : ℕ) → AreSized size (StencilSession.blank_parts count)
blank_sized size zero = tt
blank_sized size (suc count) = (tt, blank_sized size count)

-- ---- parts are stepped

step_message : (slot : ℕ) (to : Option ℕ) (left right : ℤ) (s : State) (a : Act) (made : List Id) → IsMessage (sent s a made (StencilSession.step_call slot to left right))
step_message slot to left right s a made =
    record { values = record { few = lit≤ tt; each = (tt, (tt, tt)) }; refs = tt; few_refs = lit≤ tt; cont = (refl, tt); ids = refl; short = lit≤ tt }

step_are : (n limit slot : ℕ) (left right : ℤ) (parts : List Part) (rows : List (List ℤ)) (s : State) (a : Act) → StencilSession.are_made parts ≡ true
    → AllByRecursion (λ p. p < limit) (part_places parts) → AreCalls n limit slot s a (StencilSession.step_calls slot left parts rows right)
step_are n limit slot left right [] rows s a made low = no_calls n limit slot s a
step_are n limit slot left right (x ∷ parts) [] s a made low = no_calls n limit slot s a
step_are n limit slot left right (x ∷ parts) (row ∷ rows) s a made low =
    by x.to (λ e l. step_are n limit (slot + 1) (last_or row left) right parts rows s a e l) made low
  where
    by : (to : Option ℕ) → (StencilSession.are_made parts ≡ true → AllByRecursion (λ p. p < limit) (part_places parts) → AreCalls n limit (slot + 1) s a (StencilSession.step_calls (slot + 1) (last_or row left) parts rows right))
        → ((if is_none to then false else true) && StencilSession.are_made parts) ≡ true → AllByRecursion (λ p. p < limit) (listed_place to ++ part_places parts)
        → AreCalls n limit slot s a (StencilSession.step_call slot to left (StencilSession.next_of rows right) ∷ (StencilSession.step_calls (slot + 1) (last_or row left) parts rows right))
    by None more e l = cc
    by (Some p) more e l =
        let rest = more e l.1 in
        let many = rest.many in
        record {
          below = (l.0, rest.below);
          many = omega arith;
          owned = rest.owned;
          made = rest.made;
          drawn = (refl, rest.drawn);
          count = ap suc rest.count;
          messages = λ made. (step_message slot (Some p) left (StencilSession.next_of rows right) s a made, rest.messages made);
          codes = (((λ x. cc), (λ x. cc)), rest.codes);
          moves = ((λ x. cc), rest.moves);
          roots = (tt, rest.roots);
        }

step_rare : (slot : ℕ) (left right : ℤ) (parts : List Part) (rows : List (List ℤ)) (s : State) (a : Act) → StencilSession.are_made parts ≡ true → (place : ℕ)
    → count_by (λ p. p == place) (flat_map (send_mentions s a) (StencilSession.step_calls slot left parts rows right)) ≤ count_by (λ p. p == place) (part_places parts)
step_rare slot left right [] rows s a made place = lit≤ tt
step_rare slot left right (x ∷ parts) [] s a made place = omega arith
step_rare slot left right (x ∷ parts) (row ∷ rows) s a made place =
    by x.to (λ e. step_rare (slot + 1) (last_or row left) right parts rows s a e place) made
  where
    by : (to : Option ℕ)
        → (StencilSession.are_made parts ≡ true → count_by (λ p. p == place) (flat_map (send_mentions s a) (StencilSession.step_calls (slot + 1) (last_or row left) parts rows right)) ≤ count_by (λ p. p == place) (part_places parts))
        → ((if is_none to then false else true) && StencilSession.are_made parts) ≡ true
        → count_by (λ p. p == place) (flat_map (send_mentions s a) (StencilSession.step_call slot to left (StencilSession.next_of rows right) ∷ (StencilSession.step_calls (slot + 1) (last_or row left) parts rows right)))
        ≤ count_by (λ p. p == place) (listed_place to ++ part_places parts)
    by None more e = cc
    by (Some p) more e =
        let rest = more e in
        let one = count-append (λ q. q == place) (p ∷ []) (flat_map (send_mentions s a) (StencilSession.step_calls (slot + 1) (last_or row left) parts rows right)) in
        let two = count-append (λ q. q == place) (p ∷ []) (part_places parts) in
        omega arith

step_many : (slot : ℕ) (left right : ℤ) (parts : List Part) (rows : List (List ℤ)) → length rows ≡ length parts
    → length (StencilSession.step_calls slot left parts rows right) ≡ length parts
step_many slot left right [] rows same = refl
step_many slot left right (x ∷ parts) [] same = absurd (omega arith)
step_many slot left right (x ∷ parts) (row ∷ rows) same = ap suc (step_many (slot + 1) (last_or row left) right parts rows (omega arith))

-- ---- texts

printed_short : (numbers : List ℤ) → IsShort (StencilSession.printed numbers)
printed_short numbers =
    cond_both (nat_le (length (row_text numbers)) 16384) _ _ (λ text. IsShort (text ∷ []))
    (λ e. record { few = lit≤ tt; short = (leb-true (length (row_text numbers)) 16384 e, tt) }) (λ e. answer_short 0 (Fault 10))

no_texts : IsShort []
no_texts = record { few = lit≤ tt; short = tt }

-- ---- the laws

module _ (n here : ℕ) (s : State) (a : Act) (some : 1 ≤ n) (h : IsState s) (act : IsAct a) where
  refuses : KeepsLaws n 1 here s a (refused s a)
  refuses = refused_keeps n here s a some h act

  module _ (conts : s.conts ≡ []) (cont : a.cont ≡ None) where
    abbrev hand : ℕ
    hand = length s.ids + length a.ids + 0

    -- a ring that is kept, and what is sent and printed
    ring_keeps : (drawn : ℕ) (x : Ring) (sends : List Sending) (texts : List (List ℕ)) → drawn ≡ s.drawn + length sends → IsKept hand x → AreCalls n hand s.drawn s a sends
        → ((place : ℕ) → count_by (λ p. p == place) (flat_map (send_mentions s a) sends) ≤ 2) → length sends ≤ 32 → IsShort texts
        → KeepsLaws n 1 here s a (spoken drawn (ring_out x) sends texts)
    ring_keeps drawn x sends texts next kept calls rare few short =
        let out = spoken drawn (ring_out x) sends texts in
        let own = flat_map (send_mentions s a) sends in
        let places = part_places x.parts in
        let is : mentions s a out ≡ (places ++ []) ++ (own ++ []) = ap (λ ps. (ps ++ []) ++ (own ++ [])) (refs_parts x.parts) in
        let long : length (mentions s a out) ≡ length ((places ++ []) ++ (own ++ [])) = ap length is in
        let one = length-append (places ++ []) (own ++ []) in
        let two = length-append places [] in
        let three = length-append own [] in
        let some_places = places_few x.parts in
        let some_calls = calls.many in
        let some_parts = kept.few in
        let roots = few_roots sends in
        let once : UsesEachOnce (length (hand_slots s a)) (uses out) =
        let P : List ℕ → Type 0 = λ us. UsesEachOnce (length (hand_slots s a)) (us ++ []) in subst P (sym calls.owned) (unused n here s a some h act conts cont) in
        let fit = parts_fit x.size x.parts kept.size kept.rows in
        let bytes = fit.1 in
        let points = kept.short in
        let values = parts_few x.parts in
        let refs : length (refs_in (ring_out x)) ≡ length places = ap length (refs_parts x.parts) in
        let count = calls.count in
        record {
          names = record {
            places =
                let P : List ℕ → Type 0 = AllByRecursion (λ p. p < hand) in
                subst P (sym is) (all_append (λ p. p < hand) (places ++ []) (own ++ []) (all_append (λ p. p < hand) places [] kept.below tt) (all_append (λ p. p < hand) own [] calls.below tt));
            conts = let P : List ℕ → Type 0 = λ us. AllByRecursion (λ number. number < length (hand_slots s a)) (us ++ []) in subst P (sym calls.owned) tt;
            each = λ place _.
                let r = kept.rare place in
                let q = rare place in
                let more = count-append (λ p. p == place) (places ++ []) (own ++ []) in
                let first = count-append (λ p. p == place) places [] in
                let second = count-append (λ p. p == place) own [] in
                let P : List ℕ → Type 0 = λ ps. count_by (λ p. p == place) ps ≤ 8 in subst P (sym is) (omega arith);
            all = omega arith;
          };
          conts = once;
          slots = record {
            made = let P : List _ → Type 0 = AllByRecursion (λ y. y.make < 0) in subst P (sym calls.made) tt;
            made_once = λ make slot. rw calls.made (no_counts make slot);
            session = λ other. absurd (other refl);
            drawn = calls.drawn;
            counted = omega arith;
          };
          few = record { makes = lit≤ tt; sends = few; prints = short.few; managed = tt; session = λ other. absurd (other refl); short = short.short };
          shapes = record {
            state = λ made. state_fits drawn (ring_out x) (hand_ids s a made) (tt, (tt, (tt, (tt, fit.0)))) (omega arith) (omega arith) (omega arith);
            births = tt;
            sends = calls.messages;
            replies = λ made. tt;
          };
          moves = record {
            codes = calls.codes;
            moves = never_moved _ sends calls.moves;
            moved = λ c m args. absurd (let low = m.0 in omega arith);
            place = λ c m args. absurd (let low = m.0 in omega arith);
          };
          plain = λ seven. absurd (omega arith);
          roots = calls.roots;
        }

    says : (texts : List (List ℕ)) → IsShort texts → KeepsLaws n 1 here s a (spoken s.drawn [] [] texts)
    says texts short = says_keeps n here s a some h act conts cont texts short

    -- ---- the line

    begins_keep : (x : Shape) → IsShape x → x.points / x.parts * x.parts ≤ 1024 → x.points / x.parts ≤ 1024 → KeepsLaws n 1 here s a (StencilSession.begins n s x)
    begins_keep x shape short small =
        cond_both (x.steps == 0) _ _ (KeepsLaws n 1 here s a) (λ e. says [] no_texts)
        (λ e.
        let many = new_many n s.drawn (x.points / x.parts) 0 x.parts in
        let parts = blank_many x.parts in
        let none = blank_places x.parts in
        let few = shape.1 in
        ring_keeps (s.drawn + x.parts) (record { rows = x.steps; first = s.drawn; size = x.points / x.parts; parts = StencilSession.blank_parts x.parts })
        (StencilSession.new_calls n s.drawn (x.points / x.parts) 0 x.parts) [] (omega arith)
        (record {
          rows = blank_sized (x.points / x.parts) x.parts;
          few = omega arith;
          short = let same = ap (λ k. x.points / x.parts * k) parts in omega arith;
          size = small;
          below = let P : List ℕ → Type 0 = AllByRecursion (λ p. p < hand) in subst P (sym none) tt;
          rare = λ place. let P : List ℕ → Type 0 = λ ps. count_by (λ p. p == place) ps ≤ 2 in subst P (sym none) (lit≤ tt);
        })
        (new_are n hand s.drawn (x.points / x.parts) 0 x.parts s a some small)
        (λ place. let P : List ℕ → Type 0 = λ ps. count_by (λ p. p == place) ps ≤ 2 in subst P (sym (new_none n s.drawn (x.points / x.parts) 0 x.parts s a)) (lit≤ tt))
        (omega arith) no_texts)

    -- ---- the answers

    -- parts after an answer are kept as those before it were
    kept_after : (x : Ring) (new : List Part) → IsRead s.values x → IsAfter x.size hand x.parts new → (rows first : ℕ)
        → IsKept hand (record { rows = rows; first = first; size = x.size; parts = new })
    kept_after x new read after rows first =
        let many = after.many in
        let few = read.few in
        record {
          rows = after.rows;
          few = omega arith;
          short = let same = ap (λ k. x.size * k) after.many in let fits = read.short in omega arith;
          size = read.size;
          below = after.below;
          rare = λ place. let one = after.more place in let counted : IsCount 0 (part_places x.parts) = let P : List ℕ → Type 0 = IsCount 0 in subst P read.refs h.refs in
              let two = once_counted place 0 (part_places x.parts) counted in omega arith;
        }

    kept_cleared : (x : Ring) (new : List Part) → IsRead s.values x → IsAfter x.size hand x.parts new → (rows first : ℕ)
        → IsKept hand (record { rows = rows; first = first; size = x.size; parts = StencilSession.cleared new })
    kept_cleared x new read after rows first =
        let kept = kept_after x new read after rows first in
        let many = cleared_many new in
        let few = kept.few in
        record {
          rows = cleared_sized x.size new;
          few = omega arith;
          short = let same = ap (λ k. x.size * k) many in let fits = kept.short in omega arith;
          size = kept.size;
          below = let P : List ℕ → Type 0 = AllByRecursion (λ p. p < hand) in subst P (sym (cleared_places new)) kept.below;
          rare = λ place. let P : List ℕ → Type 0 = λ ps. count_by (λ p. p == place) ps ≤ 2 in subst P (sym (cleared_places new)) (kept.rare place);
        }

    module _ (x : Ring) (new : List Part) (read : IsRead s.values x) (after : IsAfter x.size hand x.parts new) where
      waits_keep : KeepsLaws n 1 here s a (StencilSession.waits s.drawn x new)
      waits_keep =
          ring_keeps s.drawn (record { rows = x.rows; first = x.first; size = x.size; parts = new }) [] [] (omega arith) (kept_after x new read after x.rows x.first)
          (no_calls n hand s.drawn s a) (λ place. lit≤ tt) (lit≤ tt) no_texts

      steps_keep : (left : ℕ) (rows : List (List ℤ)) (texts : List (List ℕ)) → StencilSession.are_made new ≡ true → length rows ≡ length new → IsShort texts
          → KeepsLaws n 1 here s a (StencilSession.steps s.drawn left x.size new rows texts)
      steps_keep left rows texts made same short =
          let kept = kept_after x new read after left s.drawn in
          let many = step_many s.drawn (last_of rows) (first_of rows) new rows same in
          let few = kept.few in
          ring_keeps (s.drawn + length new) (record { rows = left; first = s.drawn; size = x.size; parts = StencilSession.cleared new })
          (StencilSession.step_calls s.drawn (last_of rows) new rows (first_of rows)) texts (omega arith) (kept_cleared x new read after left s.drawn)
          (step_are n hand s.drawn (last_of rows) (first_of rows) new rows s a made kept.below)
          (λ place. let rare = kept.rare place in let calls = step_rare s.drawn (last_of rows) (first_of rows) new rows s a made place in omega arith)
          (omega arith) short

      stepped_keep : StencilSession.are_made new ≡ true → (o : Option (List (List ℤ))) → IfSome o (λ rows. length rows ≡ length new)
          → KeepsLaws n 1 here s a (StencilSession.stepped_on s.drawn x new o)
      stepped_keep made None same = waits_keep
      stepped_keep made (Some rows) same =
          cond_both (x.rows == 1) _ _ (KeepsLaws n 1 here s a) (λ e. says (StencilSession.printed (joined rows)) (printed_short (joined rows)))
          (λ e. steps_keep (x.rows - 1) rows (StencilSession.printed (joined rows)) made same (printed_short (joined rows)))

      goes_keep : KeepsLaws n 1 here s a (StencilSession.goes s.drawn x (Some new) s a)
      goes_keep =
          cond_both (StencilSession.are_made new) _ _ (KeepsLaws n 1 here s a)
          (λ made. cond_both (StencilSession.are_bare new) _ _ (KeepsLaws n 1 here s a)
          (λ bare. steps_keep x.rows (StencilSession.first_rows x.size 0 (length new)) [] made (first_many x.size 0 (length new)) no_texts)
          (λ bare. stepped_keep made (StencilSession.rows_of new) (rows_many new)))
          (λ made. waits_keep)

    goes_by : (x : Ring) → IsRead s.values x → (o : Option (List Part)) → IfSome o (IsAfter x.size hand x.parts) → KeepsLaws n 1 here s a (StencilSession.goes s.drawn x o s a)
    goes_by x read None after = refuses
    goes_by x read (Some new) after = goes_keep x new read after

    -- the object of an answer stands right behind the session
    fresh_below : (slot : ℕ) (v : Value) → a.args ≡ Int (pos slot) ∷ v ∷ [] → (p : ℕ) → v ≡ Ref p → length s.ids + p < hand
    fresh_below slot v args p e =
        let is : a.args ≡ Int (pos slot) ∷ Ref p ∷ [] = args ∙ ap (λ w. Int (pos slot) ∷ w ∷ []) e in
        let counted : IsCount 1 (p ∷ []) = let P : List Value → Type 0 = λ vs. IsCount 1 (refs_in vs) in subst P is act.refs in
        let one : p ≡ 1 = counted.0 in
        let ids : length a.ids ≡ 1 + 1 + 0 = act.ids ∙ ap (λ vs. 1 + length (refs_in vs) + length (listed a.cont)) is ∙ ap (λ c. 1 + 1 + length (listed c)) cont in
        omega arith

    parts_below : (x : Ring) → IsRead s.values x → AllByRecursion (λ p. p < hand) (part_places x.parts)
    parts_below x read =
        let counted : IsCount 0 (part_places x.parts) = let P : List ℕ → Type 0 = IsCount 0 in subst P read.refs h.refs in
        let many : length (refs_in s.values) ≡ length (part_places x.parts) = ap length read.refs in
        let ids = h.ids in
        counted_below hand 0 (part_places x.parts) counted (omega arith)

    answer_keeps : (slot : ℕ) (v : Value) → a.args ≡ Int (pos slot) ∷ v ∷ [] → (x : Ring) → IsRead s.values x → (q : ℕ)
        → KeepsLaws n 1 here s a (StencilSession.goes s.drawn x (StencilSession.parts_with x.size (length s.ids) v x.parts q) s a)
    answer_keeps slot v args x read q =
        goes_by x read (StencilSession.parts_with x.size (length s.ids) v x.parts q)
        (parts_answered x.size (length s.ids) hand v (fresh_below slot v args) x.parts q read.rows (parts_below x read))

    fault_keeps : (code : ℕ) (x : Ring) (q : ℕ) → KeepsLaws n 1 here s a (StencilSession.answers s a (Fault code) x q)
    fault_keeps code x q = cond_both (nat_lt q (length x.parts)) _ _ (KeepsLaws n 1 here s a) (λ e. says (fault_text code ∷ []) (answer_short 0 (Fault code))) (λ e. refuses)

    answers_keep : (slot : ℕ) (v : Value) → a.args ≡ Int (pos slot) ∷ v ∷ [] → (x : Ring) → IsRead s.values x → (q : ℕ) → KeepsLaws n 1 here s a (StencilSession.answers s a v x q)
    answers_keep slot (Fault code) args x read q = fault_keeps code x q
    answers_keep slot Nothing args x read q = answer_keeps slot Nothing args x read q
    answers_keep slot (Flag b) args x read q = answer_keeps slot (Flag b) args x read q
    answers_keep slot (Int z) args x read q = answer_keeps slot (Int z) args x read q
    answers_keep slot (Text t) args x read q = answer_keeps slot (Text t) args x read q
    answers_keep slot (Ref p) args x read q = answer_keeps slot (Ref p) args x read q
    answers_keep slot (Ints zs) args x read q = answer_keeps slot (Ints zs) args x read q

    answers_by_keep : (slot : ℕ) (v : Value) → a.args ≡ Int (pos slot) ∷ v ∷ [] → (o : Option Ring) → IfSome o (IsRead s.values)
        → KeepsLaws n 1 here s a (StencilSession.answers_by s a slot v o)
    answers_by_keep slot v args None read = refuses
    answers_by_keep slot v args (Some x) read =
        cond_both (nat_le x.first slot) _ _ (KeepsLaws n 1 here s a) (λ e. answers_keep slot v args x read (slot - x.first)) (λ e. refuses)

    -- ---- the session

    begins_by_keep : (o : Option Shape) → IfSome o IsShape → KeepsLaws n 1 here s a (StencilSession.begins_by n s a o)
    begins_by_keep None shape = refuses
    begins_by_keep (Some x) shape =
        let few = shape.2 in
        begins_keep x shape (let short = div-mul-le_self x.points x.parts in omega arith) (let small = div-le_self x.points x.parts in omega arith)

    args_keep : (args : List Value) → a.args ≡ args → KeepsLaws n 1 here s a (StencilSession.ring_args n s a args)
    args_keep (Text (mark ∷ line) ∷ []) e =
        cond_both ((a.code == 4) && ((mark == 99) && is_empty s.values)) _ _ (KeepsLaws n 1 here s a) (λ f. begins_by_keep (shape_of line) (shape_bounds line)) (λ f. refuses)
    args_keep (Int (pos slot) ∷ v ∷ []) e =
        cond_both (a.code == 3) _ _ (KeepsLaws n 1 here s a) (λ f. answers_by_keep slot v e (ring_in s.values) (ring_read s.values)) (λ f. refuses)
    args_keep _ e = refuses

  cont_keeps : s.conts ≡ [] → (cont : Option Cont) → a.cont ≡ cont → KeepsLaws n 1 here s a (StencilSession.ring_cont n s a cont)
  cont_keeps none None e = args_keep none e a.args refl
  cont_keeps none (Some c) e = refuses

  pub ring_lawful : KeepsLaws n 1 here s a (StencilSession.ring_outcome n s a)
  unfolding StencilSession.ring_outcome
  ring_lawful =
      cond_both (is_empty s.conts && nat_le s.drawn 4000000000) _ _ (KeepsLaws n 1 here s a)
      (λ e. cont_keeps (none_left s.conts (and_parts (is_empty s.conts) (nat_le s.drawn 4000000000) e).0) a.cont refl) (λ e. refuses)

-- ---- neither names nor credits matter

abbrev blind : Act → Act
blind a = named 0 0 (message_of (bare_act a))

goes_blind : (drawn : ℕ) (x : Ring) (o : Option (List Part)) (s : State) (a : Act) → StencilSession.goes drawn x o s a ≡ StencilSession.goes drawn x o (bare_state s) (blind a)
goes_blind drawn x None s a = refl
goes_blind drawn x (Some parts) s a = refl

-- only how many ids there are
answer_blind : (s : State) (a : Act) (v : Value) (x : Ring) (q : ℕ)
    → StencilSession.goes s.drawn x (StencilSession.parts_with x.size (length s.ids) v x.parts q) s a
    ≡ StencilSession.goes s.drawn x (StencilSession.parts_with x.size (length (map bare s.ids)) v x.parts q) (bare_state s) (blind a)
answer_blind s a v x q =
    ap (λ k. StencilSession.goes s.drawn x (StencilSession.parts_with x.size k v x.parts q) s a) (sym (length-map s.ids bare))
    ∙ goes_blind s.drawn x (StencilSession.parts_with x.size (length (map bare s.ids)) v x.parts q) s a

answers_blind : (s : State) (a : Act) (v : Value) (x : Ring) (q : ℕ) → StencilSession.answers s a v x q ≡ StencilSession.answers (bare_state s) (blind a) v x q
answers_blind s a (Fault code) x q = refl
answers_blind s a Nothing x q = answer_blind s a Nothing x q
answers_blind s a (Flag b) x q = answer_blind s a (Flag b) x q
answers_blind s a (Int z) x q = answer_blind s a (Int z) x q
answers_blind s a (Text t) x q = answer_blind s a (Text t) x q
answers_blind s a (Ref p) x q = answer_blind s a (Ref p) x q
answers_blind s a (Ints zs) x q = answer_blind s a (Ints zs) x q

answers_by_blind : (s : State) (a : Act) (slot : ℕ) (v : Value) (o : Option Ring) → StencilSession.answers_by s a slot v o ≡ StencilSession.answers_by (bare_state s) (blind a) slot v o
answers_by_blind s a slot v None = refl
answers_by_blind s a slot v (Some x) = ap (λ o. if nat_le x.first slot then o else refused s a) (answers_blind s a v x (slot - x.first))

begins_by_blind : (n : ℕ) (s : State) (a : Act) (o : Option Shape) → StencilSession.begins_by n s a o ≡ StencilSession.begins_by n (bare_state s) (blind a) o
begins_by_blind n s a None = refl
begins_by_blind n s a (Some x) = refl

args_blind : (n : ℕ) (s : State) (a : Act) (args : List Value) → StencilSession.ring_args n s a args ≡ StencilSession.ring_args n (bare_state s) (blind a) args
args_blind n s a (Text (mark ∷ line) ∷ []) =
    ap (λ o. if (a.code == 4) && ((mark == 99) && is_empty s.values) then o else refused s a) (begins_by_blind n s a (shape_of line))
args_blind n s a (Int (pos slot) ∷ v ∷ []) = ap (λ o. if a.code == 3 then o else refused s a) (answers_by_blind s a slot v (ring_in s.values))
args_blind n s a _ = refl

cont_blind : (n : ℕ) (s : State) (a : Act) (cont : Option Cont) → StencilSession.ring_cont n s a cont ≡ StencilSession.ring_cont n (bare_state s) (blind a) cont
cont_blind n s a None = args_blind n s a a.args
cont_blind n s a (Some c) = refl

pub ring_blind : (n : ℕ) (s : State) (a : Act) → StencilSession.ring_outcome n s a ≡ StencilSession.ring_outcome n (bare_state s) (blind a)
unfolding StencilSession.ring_outcome
ring_blind n s a = ap (λ o. if is_empty s.conts && nat_le s.drawn 4000000000 then o else refused s a) (cont_blind n s a a.cont)
