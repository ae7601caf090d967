-- A made session, line after line, and what it comes to.
use Rattle.std.specs.Prelude.{ℤ, pos, negsuc, Bool, true, false, ⊤, Result, Ok, Err, IfSome, OnOk, IfErr, nat_lt, ◌+ℤ◌, ◌≤ℤ◌, ◌≢◌, if◌then◌else◌}
use Rattle.std.specs.Int.{w128}
use Rattle.std.specs.List.{concat, slice_get, AllByRecursion}
use Rattle.std.proofs.Common.{FitsSigned, lit<, suc, ◌*◌, ◌^◌, ℕ, List, [], ◌∷◌, ◌++◌, ◌≡◌, ◌≤◌, ◌<◌, ◌+◌, ◌⊎◌, length, map, take, drop, Option, Some, None, refl, sym, ap, ◌∙◌, subst, inl, inr, arith, append-nil, append_assoc, length-append}
use Rattle.std.proofs.Math.Seq.{drop-append_seam}
use Rattle.std.proofs.lemmas.Bool.{cond_both, ltb-true, ltb-false}
use Rattle.std.proofs.lemmas.Int.{fits_signed_from_abs, ints}
use mir.Val.{hbits}
use Rattle.std.proofs.lemmas.List.{drop_all, drop-append-le, length-drop, map-append, take-append-le, take_all}
use Rattle.hpx_value.specs.declared.profile.Profile.{Profile}
use Rattle.hpx_journal.specs.declared.entry.Entry.{Entry}
use Rattle.hpx_journal.specs.Entries.{Frame, Rules}
use Rattle.hpx_journal.specs.Pool.{NoneFails, prints_by, prints_of}
use Rattle.hpx_journal.specs.Sessions.{BeginsWith, IsSession, IsSettled, entries_of, shown}
use Rattle.hpx_journal.specs.Whole.{IsCarried, IsLegal, replayed, road_after}
use Rattle.hpx_journal.proofs.Sessions.{entries_append, session_grows, shown_append}
use Rattle.hpx_parcel.specs.Reading.{parcel_of}
use Rattle.hpx_ports.specs.Told.{followed}
use Rattle.hpx_steps.specs.Rest.{rules_of}
use Rattle.hpx_world.proofs.Sound.{spells_well}
use Rattle.hpx_world.specs.Audit.{AreOrdered, IsAudit}
use Rattle.hpx_world.specs.declared.audit.AuditLine.{AuditLine}
use Rattle.app_console.specs.Lines.{is_long}
use Rattle.app_console.specs.Text.{marked}
use Rattle.app_load.specs.Load.{errors_in, is_error, session_lines, sum_in, summary_of, texts_asked, texts_made}
use Rattle.app_load.specs.Session.{IsNext}
use Rattle.app_load.proofs.Lines.{session_few, session_fits}
use Rattle.app_load.proofs.Texts.{asked_are, made_are}
use Rattle.hpx_top.specs.Acts.{act_of}
use Rattle.hpx_top.specs.declared.load.Tally.{Tally}
use Rattle.hpx_top.specs.declared.session.SessionFault.{SessionFault}
use Rattle.hpx_top.specs.declared.session.SessionFault.TheVariants.{Read, Write, Fabric, JournalFull, OutOfMemory, Broken, InputFull}
use Rattle.hpx_top.specs.Breaches.{breach_status}
use Rattle.hpx_top.specs.declared.task.Workload.{Workload}
use Rattle.hpx_top.specs.Loaded.{counted, load_fed, made_in, asked_in, number_told, AreFed, AreLive, FeedsFirst, HasLoaded, IsBounded, IsCounted, IsLoading, IsSummed, IsSummedPlainly, IsUnloaded, WritesSo, WritesSoUpTo}
use Rattle.hpx_world.specs.Places.{Places}
use Rattle.hpx_top.specs.Session.{rules, entries_in, lines_fed, Feeds, FeedsAtMost, WritesFront}
use Rattle.hpx_top.specs.Statuses.{status_after}
use Rattle.hpx_top.proofs.ActLemmas.{acting}
use Rattle.hpx_top.proofs.ComputeLemmas.{breach_fails, breach_high}
use Rattle.hpx_top.proofs.LineLemmas.{block_line, lines_fed_append}
use Rattle.hpx_top.proofs.SessionLemmas.{fed_once}
use Rattle.hpx_top.proofs.ShowLemmas.{entry_at, rest_at}

-- ---- what was printed

pub printed_more : (es : List Entry) (i : ℕ) (old new whole : List ℕ) → i < length es → old ++ concat (prints_of (drop i es)) ≡ whole
    → ((e : Entry) → slice_get es i ≡ Some e → new ≡ old ++ concat (prints_by e.event)) → new ++ concat (prints_of (drop (i + 1) es)) ≡ whole
printed_more es i old new whole h so more =
    let at = entry_at es i h in
    let rest = concat (prints_of (drop (i + 1) es)) in
    ap (λ t. t ++ rest) (more at.0 at.1)
    ∙ (append_assoc old (concat (prints_by at.0.event)) rest ∙ (ap (λ t. old ++ t) (sym (rest_at es i at.0 at.2)) ∙ so))

-- ---- one more text

-- what is counted of a line stays in its bounds
pub bounded_still : (t : Tally) → t.fed < 4000000000 → IsBounded t → IsBounded (record { fed = t.fed + 1; errors = t.errors; sum = t.sum })
bounded_still t low b = record {
  fed = omega (arith, low);
  errors = let few = b.errors in omega (arith, few);
  least = let least = b.least in omega (arith, ints, least);
  most = let most = b.most in omega (arith, ints, most);
}

pub bounded_error : (t : Tally) → t.fed < 4000000000 → IsBounded t → IsBounded (record { fed = t.fed + 1; errors = t.errors + 1; sum = t.sum })
bounded_error t low b = record {
  fed = omega (arith, low);
  errors = let few = b.errors in omega (arith, few);
  least = let least = b.least in omega (arith, ints, least);
  most = let most = b.most in omega (arith, ints, most);
}

pub bounded_number : (t : Tally) (n : ℤ) → t.fed < 4000000000 → negsuc 9223372036854775807 ≤ℤ n → n ≤ℤ pos 9223372036854775807 → IsBounded t
    → IsBounded (record { fed = t.fed + 1; errors = t.errors; sum = t.sum +ℤ n })
bounded_number t n less low high b = record {
  fed = omega (arith, less);
  errors = let few = b.errors in omega (arith, few);
  least = let least = b.least in omega (arith, ints, least, low);
  most = let most = b.most in omega (arith, ints, most, high);
}

errors_last : (xs : List (List ℕ)) (x : List ℕ) → errors_in (xs ++ x ∷ []) ≡ errors_in xs + (if is_error x then 1 else 0)
errors_last [] x = omega arith
errors_last (y ∷ xs) x = let more = errors_last xs x in omega (arith, more)

sum_last : (xs : List (List ℕ)) (x : List ℕ) → sum_in (xs ++ x ∷ []) ≡ sum_in xs +ℤ number_told x
sum_last [] x = omega (arith, ints)
sum_last (y ∷ xs) x = ap (λ z. number_told y +ℤ z) (sum_last xs x) ∙ omega (arith, ints)

-- before, in and behind so many texts
module _ (xs : List (List ℕ)) (x : List ℕ) where
  made_before : (count : ℕ) → length xs < 8 → take count (drop 8 (xs ++ x ∷ [])) ≡ take count (drop 8 xs)
  made_before count h =
      ap (take count) (drop_all 8 (xs ++ x ∷ []) (omega (arith, length-append xs (x ∷ []))) ∙ sym (drop_all 8 xs (omega arith)))

  made_within : (count : ℕ) → 8 ≤ length xs → length xs < 8 + count → take count (drop 8 (xs ++ x ∷ [])) ≡ take count (drop 8 xs) ++ x ∷ []
  made_within count h k =
      let size = length-drop 8 xs in
      ap (take count) (drop-append-le 8 xs (x ∷ []) h)
      ∙ (take_all count (drop 8 xs ++ x ∷ []) (omega (arith, size, length-append (drop 8 xs) (x ∷ [])))
      ∙ ap (λ ys. ys ++ x ∷ []) (sym (take_all count (drop 8 xs) (omega (arith, size)))))

  made_behind : (count : ℕ) → 8 + count ≤ length xs → take count (drop 8 (xs ++ x ∷ [])) ≡ take count (drop 8 xs)
  made_behind count h =
      ap (take count) (drop-append-le 8 xs (x ∷ []) (omega arith))
      ∙ take-append-le count (drop 8 xs) (x ∷ []) (omega (arith, length-drop 8 xs))

  asked_before : (count : ℕ) → length xs < 8 + count → drop (8 + count) (xs ++ x ∷ []) ≡ drop (8 + count) xs
  asked_before count h =
      drop_all (8 + count) (xs ++ x ∷ []) (omega (arith, length-append xs (x ∷ []))) ∙ sym (drop_all (8 + count) xs (omega arith))

counted_more : (lines : ℕ) (texts : List (List ℕ)) (t : Tally) (text : List ℕ) → IsCounted lines texts t
    → IsCounted lines (texts ++ text ∷ []) (counted lines t text)
counted_more lines texts t text c =
    let more : length (texts ++ text ∷ []) ≡ length texts + 1 = length-append texts (text ∷ []) in
    let fed : t.fed + 1 ≡ length (texts ++ text ∷ []) = omega (arith, more, c.fed) in
    cond_both (nat_lt t.fed 8) _ _ (IsCounted lines (texts ++ text ∷ []))
    (λ e.
    let low : length texts < 8 = subst (λ k. k < 8) c.fed (ltb-true t.fed 8 e) in
    record {
      fed = fed;
      errors = c.errors ∙ ap errors_in (sym (made_before texts text lines low));
      sum = c.sum ∙ ap sum_in (sym (asked_before texts text lines (omega (arith, low))));
    })
    (λ e.
    let high : 8 ≤ length texts = subst (λ k. 8 ≤ k) c.fed (ltb-false t.fed 8 e) in
    cond_both (nat_lt t.fed (8 + lines)) _ _ (IsCounted lines (texts ++ text ∷ []))
    (λ f.
    let low : length texts < 8 + lines = subst (λ k. k < 8 + lines) c.fed (ltb-true t.fed (8 + lines) f) in
    record {
      fed = fed;
      errors = ap (λ k. k + (if is_error text then 1 else 0)) c.errors
          ∙ (sym (errors_last (take lines (drop 8 texts)) text) ∙ ap errors_in (sym (made_within texts text lines high low)));
      sum = c.sum ∙ ap sum_in (sym (asked_before texts text lines low));
    })
    (λ f.
    let behind : 8 + lines ≤ length texts = subst (λ k. 8 + lines ≤ k) c.fed (ltb-false t.fed (8 + lines) f) in
    record {
      fed = fed;
      errors = c.errors ∙ ap errors_in (sym (made_behind texts text lines behind));
      sum = ap (λ z. z +ℤ number_told text) c.sum
          ∙ (sym (sum_last (drop (8 + lines) texts) text) ∙ ap sum_in (sym (drop-append-le (8 + lines) texts (text ∷ []) behind)));
    }))

le_lt : (a b c : ℕ) → a ≤ b → b < c → a < c
le_lt a b c h k = omega (arith, h, k)

-- 128 bits hold what lies within bounds
fits_within : (z : ℤ) (m : ℕ) → negsuc m ≤ℤ z → z ≤ℤ pos m → m + 1 < 2 ^ hbits w128 → FitsSigned w128 z
fits_within (pos n) m low high few =
    let k : n ≤ m + 1 = omega (arith, ints, high) in fits_signed_from_abs w128 (pos n) (le_lt n (m + 1) (2 ^ hbits w128) k few)
fits_within (negsuc n) m low high few =
    let k : suc n ≤ m + 1 = omega (arith, ints, low) in fits_signed_from_abs w128 (negsuc n) (le_lt (suc n) (m + 1) (2 ^ hbits w128) k few)

-- the sum and one more number
pub sum_fits : (t : Tally) (n : ℤ) → t.fed < 4000000000 → negsuc 9223372036854775807 ≤ℤ n → n ≤ℤ pos 9223372036854775807 → IsBounded t → FitsSigned w128 (t.sum +ℤ n)
sum_fits t n less low high b =
    let more = bounded_number t n less low high b in
    let m = 9223372036854775808 * (t.fed + 1) in
    let few : m + 1 ≤ 36893488147419103232000000001 = omega (arith, less) in
    fits_within (t.sum +ℤ n) m more.least more.most (le_lt (m + 1) 36893488147419103232000000001 (2 ^ hbits w128) few (lit< tt))

-- ---- one more line

-- what holds of a journal holds of its front
carried_front : (r : Rules) (road : List Frame) (xs ys : List Entry) → IsCarried r road (xs ++ ys) → IsCarried r road xs
carried_front r road [] ys h = tt
carried_front r road (x ∷ xs) ys h = (h.0, h.1, carried_front r (road_after road x) xs ys h.2)

marked_append : (mark : ℕ) (xs ys : List (List ℕ)) → marked mark (xs ++ ys) ≡ marked mark xs ++ marked mark ys
marked_append mark [] ys = refl
marked_append mark (x ∷ xs) ys =
    ap (λ zs. if is_long x then zs else (mark ∷ x) ∷ zs) (marked_append mark xs ys) ∙ over (is_long x) (marked mark xs) (marked mark ys)
  where
    over : (b : Bool) (zs ws : List (List ℕ)) → (if b then zs ++ ws else (mark ∷ x) ∷ (zs ++ ws)) ≡ (if b then zs else (mark ∷ x) ∷ zs) ++ ws
    over true zs ws = refl
    over false zs ws = refl

marked_last : (mark : ℕ) (xs : List (List ℕ)) (x : List ℕ) → is_long x ≡ false → marked mark (xs ++ x ∷ []) ≡ marked mark xs ++ (mark ∷ x) ∷ []
marked_last mark xs x short =
    marked_append mark xs (x ∷ []) ∙ ap (λ b. marked mark xs ++ (if b then [] else (mark ∷ x) ∷ [])) short

session_fed : (lines : List (List ℕ)) (blocks : List (List Entry)) → AreFed lines blocks → lines_fed (entries_of blocks) ≡ lines
session_fed [] [] h = refl
session_fed (line ∷ lines) (es ∷ blocks) h =
    lines_fed_append es (entries_of blocks)
    ∙ (ap (λ xs. xs ++ lines_fed (entries_of blocks)) (block_line line es h.0) ∙ ap (λ xs. line ∷ xs) (session_fed lines blocks h.1))
session_fed [] (x ∷ xs) h = absurd h
session_fed (x ∷ xs) [] h = absurd h

fed_append : (lines : List (List ℕ)) (blocks : List (List Entry)) (line : List ℕ) (es : List Entry) → AreFed lines blocks → BeginsWith line es
    → AreFed (lines ++ line ∷ []) (blocks ++ es ∷ [])
fed_append [] [] line es h begins = (begins, tt)
fed_append (x ∷ lines) (b ∷ blocks) line es h begins = (h.0, fed_append lines blocks line es h.1 begins)
fed_append [] (x ∷ xs) line es h begins = absurd h
fed_append (x ∷ xs) [] line es h begins = absurd h

-- the next of the lines that are left
pub next_is : (o : Option (List ℕ)) (line : List ℕ) (lines left : List (List ℕ)) → o ≡ Some line → IsNext o lines left → lines ≡ line ∷ left
next_is o line lines left is h = subst (λ x. IsNext x lines left) is h

pub loading_start : (r : Rules) (load : Workload) (t : Tally) (entries : List Entry) (left : List (List ℕ)) → entries ≡ []
    → left ≡ session_lines load.start load.lines r.localities → t.fed ≡ 0 → t.errors ≡ 0 → t.sum ≡ pos 0 → IsLoading r load left entries t
loading_start r load t entries left empty all fed errors sum = record {
  before = [];
  lines_are = sym all;
  blocks = [];
  begin = tt;
  session = λ carried. tt;
  entries_are = empty;
  many = refl;
  counts = record {
    fed = fed;
    errors = errors ∙ sym (ap errors_in (take_all load.lines [] (omega arith)));
    sum = sum ∙ sym (ap sum_in (drop_all (8 + load.lines) [] (omega arith)));
  };
  bounded = record { fed = omega (arith, fed); errors = omega (arith, fed, errors); least = omega (arith, ints, fed, sum); most = omega (arith, ints, fed, sum) };
}

module _ (r : Rules) (load : Workload) (some : 1 ≤ r.localities) (few : r.localities ≤ 64) (lines : load.lines ≤ 20000) where
  later_fits : (xs ys : List (List ℕ)) (x : List ℕ) → AllByRecursion (λ line. is_long line ≡ false) (xs ++ x ∷ ys) → is_long x ≡ false
  later_fits [] ys x h = h.0
  later_fits (y ∷ xs) ys x h = later_fits xs ys x h.1

  pub loading_short : (left : List (List ℕ)) (line : List ℕ) (next : List (List ℕ)) (entries : List Entry) (t : Tally) → IsLoading r load left entries t
      → left ≡ line ∷ next → is_long line ≡ false
  loading_short left line next entries t l is =
      later_fits l.before next line
      (subst (AllByRecursion (λ x. is_long x ≡ false)) (l.lines_are ∙ ap (λ ls. l.before ++ ls) is) (session_fits load.start load.lines r.localities some few))

  pub loading_few : (left : List (List ℕ)) (entries : List Entry) (t : Tally) → IsLoading r load left entries t → t.fed < 4000000000
  loading_few left entries t l =
      let all = session_few load.start load.lines r.localities lines in
      omega (arith, all, ap length l.lines_are, length-append l.before left, l.counts.fed, l.many)

  pub loading_more : (left : List (List ℕ)) (line : List ℕ) (next : List (List ℕ)) (old new : List Entry) (t t' : Tally) → IsLoading r load left old t
      → left ≡ line ∷ next → Feeds r (115 ∷ line) old new → t' ≡ counted load.lines t (concat (prints_of (drop (length old) new))) → IsBounded t'
      → IsLoading r load next new t'
  loading_more left line next old new t t' l is f count bounded =
      let texts = map concat (shown l.blocks) in
      let text = concat (prints_of f.block) in
      let shown_are : map concat (shown (l.blocks ++ f.block ∷ [])) ≡ texts ++ text ∷ [] =
      ap (map concat) (shown_append l.blocks f.block) ∙ map-append concat (shown l.blocks) (prints_of f.block ∷ []) in
      let block_is : drop (length old) new ≡ f.block = ap (drop (length old)) f.is ∙ drop-append_seam old f.block in
      let new_is : new ≡ entries_of l.blocks ++ f.block = f.is ∙ ap (λ es. es ++ f.block) l.entries_are in
      record {
        before = l.before ++ line ∷ [];
        lines_are = l.lines_are ∙ (ap (λ ls. l.before ++ ls) is ∙ sym (append_assoc l.before (line ∷ []) next));
        blocks = l.blocks ++ f.block ∷ [];
        begin = subst (λ ls. AreFed ls (l.blocks ++ f.block ∷ [])) (sym (marked_last 115 l.before line (loading_short left line next old t l is)))
            (fed_append (marked 115 l.before) l.blocks (115 ∷ line) f.block l.begin f.begins);
        session = λ carried. subst (λ ls. IsSession r [] ls (l.blocks ++ f.block ∷ [])) (sym (marked_last 115 l.before line (loading_short left line next old t l is)))
            (session_grows r [] (marked 115 l.before) l.blocks (115 ∷ line) f.block (l.session (carried_front r [] old f.block (subst (IsCarried r []) f.is carried))) (record {
              legal = subst (λ es. IsLegal r es) new_is (f.legal carried);
              begins = f.begins;
              settled = subst (λ es. IsSettled r (replayed r es)) new_is (f.settled carried);
            }));
        entries_are = new_is ∙ sym (entries_append l.blocks f.block);
        many = ap length shown_are ∙ (length-append texts (text ∷ []) ∙ (ap (λ k. k + 1) l.many ∙ sym (length-append l.before (line ∷ []))));
        counts = subst (λ ts. IsCounted load.lines ts t') (sym shown_are)
            (subst (IsCounted load.lines (texts ++ text ∷ [])) (sym (count ∙ ap (λ es. counted load.lines t (concat (prints_of es))) block_is))
            (counted_more load.lines texts t text l.counts));
        bounded = bounded;
      }

-- ---- what was fed

loading_fed : (r : Rules) (load : Workload) (left : List (List ℕ)) (entries : List Entry) (t : Tally) (l : IsLoading r load left entries t)
    → lines_fed entries ≡ marked 115 l.before
loading_fed r load left entries t l = ap lines_fed l.entries_are ∙ session_fed (marked 115 l.before) l.blocks l.begin

-- all lines, by those that were fed
all_lines : (r : Rules) (load : Workload) (left : List (List ℕ)) (entries : List Entry) (t : Tally) (l : IsLoading r load left entries t)
    → lines_fed entries ++ marked 115 left ≡ load_fed r load
all_lines r load left entries t l =
    ap (λ ls. ls ++ marked 115 left) (loading_fed r load left entries t l)
    ∙ (sym (marked_append 115 l.before left) ∙ ap (marked 115) (sym l.lines_are))

pub first_fed : (r : Rules) (load : Workload) (left : List (List ℕ)) (entries : List Entry) (t : Tally) → IsLoading r load left entries t → FeedsFirst r load entries
first_fed r load left entries t l = (marked 115 left, all_lines r load left entries t l)

-- and one more line, or not
pub first_fed_more : (r : Rules) (load : Workload) (left : List (List ℕ)) (line : List ℕ) (next : List (List ℕ)) (old new : List Entry) (t : Tally) → IsLoading r load left old t
    → left ≡ line ∷ next → is_long line ≡ false → FeedsAtMost (115 ∷ line) old new → FeedsFirst r load new
first_fed_more r load left line next old new t l is short (inl same) = subst (FeedsFirst r load) (sym same) (first_fed r load left old t l)
first_fed_more r load left line next old new t l is short (inr f) = (
  marked 115 next,
  ap (λ ls. ls ++ marked 115 next) (fed_once (115 ∷ line) old new f)
      ∙ (append_assoc (lines_fed old) ((115 ∷ line) ∷ []) (marked 115 next)
      ∙ (ap (λ b. lines_fed old ++ (if b then marked 115 next else (115 ∷ line) ∷ marked 115 next)) (sym short)
      ∙ (ap (λ ls. lines_fed old ++ marked 115 ls) (sym is) ∙ all_lines r load left old t l))),
)

summed_fed : (r : Rules) (load : Workload) (entries : List Entry) (text : List ℕ) → IsSummed r load entries text → lines_fed entries ≡ load_fed r load
summed_fed r load entries text s = ap lines_fed s.entries_are ∙ session_fed (load_fed r load) s.blocks s.begin

-- ---- what it comes to

pub summed_is : (r : Rules) (load : Workload) (entries : List Entry) (t : Tally) (lines : List AuditLine) (text : List ℕ) → IsLoading r load [] entries t
    → (IsCarried r [] entries → IsAudit r entries lines) → AreOrdered lines → text ≡ summary_of load.lines t.errors (length lines) t.sum → IsSummed r load entries text
summed_is r load entries t lines text l audit ordered is = record {
  blocks = l.blocks;
  begin = subst (λ ls. AreFed (marked 115 ls) l.blocks) (sym (l.lines_are ∙ append-nil l.before)) l.begin;
  session = λ carried. subst (λ ls. IsSession r [] (marked 115 ls) l.blocks) (sym (l.lines_are ∙ append-nil l.before)) (l.session carried);
  entries_are = l.entries_are;
  live = length lines;
  objects = record { lines = lines; audit = audit; ordered = ordered; many = refl };
  text_is = is ∙ (ap (λ e. summary_of load.lines e (length lines) t.sum) l.counts.errors
      ∙ ap (λ z. summary_of load.lines (errors_in (made_in load.lines l.blocks)) (length lines) z) l.counts.sum);
}

-- where no action failed, one plain space says so
pub summed_plainly : (n : ℕ) (p : Profile) (load : Workload) (entries : List Entry) (text : List ℕ) → 1 ≤ n → n ≤ 64 → load.lines ≤ 20000 → IsCarried (rules_of act_of n p) [] entries → NoneFails entries
    → IsSummed (rules_of act_of n p) load entries text → IsSummedPlainly (rules_of act_of n p) load entries text
summed_plainly n p load entries text some few lines carried calm s =
    let fine = subst NoneFails s.entries_are calm in
    let made = made_are load.start load.lines n acting p.credit_log p.credit_limit parcel_of some few lines s.blocks (spells_well act_of n p) fine (s.session carried) in
    let asked = asked_are load.start load.lines n acting p.credit_log p.credit_limit parcel_of some few lines s.blocks (spells_well act_of n p) fine (s.session carried) in
    record {
      live = s.live;
      objects = s.objects;
      text_is = s.text_is ∙ (ap (λ ts. summary_of load.lines (errors_in ts) s.live (sum_in (asked_in load.lines s.blocks))) made
          ∙ ap (λ ts. summary_of load.lines (errors_in (texts_made load.start load.lines n)) s.live (sum_in ts)) asked);
    }

-- ---- where it ends

-- a line could not be fed, or not be done
pub unloaded_before : (f : SessionFault) (r : Rules) (load : Workload) (es : List Entry) (old new : Option (List ℕ)) → f ≢ Read → f ≢ Write → f ≢ InputFull → new ≡ old
    → IsUnloaded f r load es old new
unloaded_before Read r load es old new read write full same = absurd (read refl)
unloaded_before Write r load es old new read write full same = absurd (write refl)
unloaded_before InputFull r load es old new read write full same = absurd (full refl)
unloaded_before (Broken breach) r load es old new read write full same = same
unloaded_before Fabric r load es old new read write full same = same
unloaded_before JournalFull r load es old new read write full same = same
unloaded_before OutOfMemory r load es old new read write full same = same

unwritten : (r : Rules) (load : Workload) (Tells : List ℕ → Type 0) (s : ℕ) (entries : List Entry) (old new : Option (List ℕ)) → s ≢ 0 → s ≢ 3
    → FeedsFirst r load entries → new ≡ old → HasLoaded r load Tells s entries old new
unwritten r load Tells s entries old new zero three fed same = record {
  fed = fed;
  whole = λ is. absurd (zero is);
  front = λ is. absurd (three is);
  nothing = λ x y. same;
}

has_loaded : {T : Type 0} (res : Result T SessionFault) (r : Rules) (load : Workload) (Tells : List ℕ → Type 0) (es : List Entry) (old new : Option (List ℕ))
    → ((text : List ℕ) → IsSummed r load es text → Tells text) → FeedsFirst r load es → OnOk res (WritesSo (IsSummed r load es) old new)
    → IfErr res (λ f. IsUnloaded f r load es old new) → HasLoaded r load Tells (status_after res) es old new
has_loaded (Ok x) r load Tells es old new tells fed ok err = record {
  fed = fed;
  whole = λ s. (summed_fed r load es ok.0 ok.1, (ok.0, tells ok.0 ok.1, ok.2));
  front = λ s. absurd (omega (arith, s));
  nothing = λ s t. absurd (s refl);
}
has_loaded (Err Write) r load Tells es old new tells fed ok err = record {
  fed = fed;
  whole = λ s. absurd (omega (arith, s));
  front = λ s. (summed_fed r load es err.0 err.1, (err.0, tells err.0 err.1, err.2));
  nothing = λ s t. absurd (t refl);
}
has_loaded (Err Read) r load Tells es old new tells fed ok err = absurd err
has_loaded (Err InputFull) r load Tells es old new tells fed ok err = absurd err
has_loaded (Err Fabric) r load Tells es old new tells fed ok err = unwritten r load Tells 4 es old new (λ s. absurd (omega (arith, s))) (λ s. absurd (omega (arith, s))) fed err
has_loaded (Err JournalFull) r load Tells es old new tells fed ok err = unwritten r load Tells 5 es old new (λ s. absurd (omega (arith, s))) (λ s. absurd (omega (arith, s))) fed err
has_loaded (Err OutOfMemory) r load Tells es old new tells fed ok err = unwritten r load Tells 6 es old new (λ s. absurd (omega (arith, s))) (λ s. absurd (omega (arith, s))) fed err
has_loaded (Err (Broken breach)) r load Tells es old new tells fed ok err =
    unwritten r load Tells (breach_status breach) es old new (breach_fails breach) (λ s. absurd (let high = breach_high breach in omega (arith, high, s))) fed err

-- without memory for a world nothing was done
pub loaded_none : {T : Type 0} (res : Result T SessionFault) (r : Rules) (load : Workload) (Tells : List ℕ → Type 0) (old new : Option (List ℕ)) → res ≡ Err OutOfMemory
    → new ≡ old → HasLoaded r load Tells (status_after res) [] old new
loaded_none res r load Tells old new is same =
    subst (λ q. HasLoaded r load Tells (status_after q) [] old new) (sym is)
    (unwritten r load Tells 6 [] old new (λ s. absurd (omega (arith, s))) (λ s. absurd (omega (arith, s))) (load_fed r load, refl) same)

-- what was written in the world that there is tells so, where what a session comes to tells so
pub loaded_in : {T : Type 0} (o : Option Places) (n : ℕ) (p : Profile) (res : Result T SessionFault) (load : Workload) (Tells : List ℕ → Type 0) (old new : Option (List ℕ))
    → IfSome o (λ w. (length w.nodes ≡ n) × (w.profile ≡ p)) → (o ≡ None → res ≡ Err OutOfMemory) → (o ≡ None → new ≡ old)
    → ((text : List ℕ) → IsSummed (rules_of act_of n p) load (entries_in o) text → Tells text)
    → IfSome o (λ w. FeedsFirst (rules w) load w.journal.entries)
    → IfSome o (λ w. OnOk res (WritesSo (IsSummed (rules w) load w.journal.entries) old new))
    → IfSome o (λ w. IfErr res (λ f. IsUnloaded f (rules w) load w.journal.entries old new))
    → HasLoaded (rules_of act_of n p) load Tells (status_after res) (entries_in o) old new
loaded_in None n p res load Tells old new is none same tells fed ok err = loaded_none res (rules_of act_of n p) load Tells old new (none refl) (same refl)
loaded_in (Some w) n p res load Tells old new is none same tells fed ok err =
    let r : rules w ≡ rules_of act_of n p = ap (λ k. rules_of act_of k w.profile) is.0 ∙ ap (λ q. rules_of act_of n q) is.1 in
    has_loaded res (rules_of act_of n p) load Tells w.journal.entries old new tells (subst (λ x. FeedsFirst x load w.journal.entries) r fed)
    (subst (λ x. OnOk res (WritesSo (IsSummed x load w.journal.entries) old new)) r ok)
    (subst (λ x. IfErr res (λ f. IsUnloaded f x load w.journal.entries old new)) r err)

-- where writing did not fail, nothing rose
pub write_stands : (res : Result ⊤ SessionFault) (R S : Type 0) → IfErr res (λ f. ((f ≡ Write) × R) ⊎ ((f ≡ OutOfMemory) × S)) → OnOk res S → res ≢ Err Write → S
write_stands (Ok x) R S cause ok other = ok
write_stands (Err f) R S (inl w) ok other = absurd (other (ap (λ e. Err e) w.0))
write_stands (Err f) R S (inr m) ok other = m.1
