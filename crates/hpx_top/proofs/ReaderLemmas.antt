-- Bytes in which lines are looked for, and the lines that are left.
use Rattle.std.specs.Prelude.{ℕ, Bool, true, false, Option, Some, None, Result, Ok, Err, IfSome, IfOk, OnOk, OnErr, IsErrOf, List, [], ◌∷◌, ◌++◌, ◌≡◌, ◌||◌, ◌+◌, ◌-◌, ◌<◌, ◌≤◌, length, take, drop, refl, if◌then◌else◌}
use Rattle.std.specs.Option.{option_map}
use Rattle.std.specs.List.{slice_split, list_any}
use Rattle.std.specs.Str.Lines.{strip_carriage_return}
use Rattle.std.proofs.Common.{inl, inr, sym, ap, ◌∙◌, subst, arith, append_assoc, append-nil}
use Rattle.std.proofs.lemmas.List.{append_cancel_right, take-append-drop, take-append-le, take-take, take_all, take_rest, drop-drop, length-take, length-drop, length-append}
use Rattle.std.proofs.lemmas.List.Folds.{list_any-append}
use Rattle.std.proofs.Math.Seq.{take-add, take-append-add}
use Rattle.std.proofs.Math.ListN.{drop_of_length-le}
use Rattle.hpx_ports.specs.Told.{preceded}
use Rattle.hpx_ports.specs.Bytes.{Reads}
use Rattle.hpx_top.specs.declared.reader.Next.{Next}
use Rattle.hpx_top.specs.declared.reader.Next.TheVariants.{Line, Long, Quit, End, Full}
use Rattle.app_console.specs.Lines.{is_long, is_quit, is_newline, IsPiece, lines_in}
use Rattle.hpx_top.specs.Pending.{IsNewlineAt, IsSearched, ReadsOnto}
use Rattle.hpx_top.specs.declared.reader.ReadFault.{ReadFault}
use Rattle.hpx_top.specs.declared.reader.ReadFault.TheVariants.{Failed, OutOfMemory}
use Rattle.hpx_top.specs.Reader.{Reading, HasRead, still_left, input_left, lines_left, bytes_left, behind_line, Answers, LeavesFewer, LeavesBehind, IsFull, IsOut, IsNoLine, IsLast, WantsMemory, next_of}
use Rattle.hpx_top.proofs.PlainLemmas.{lines_in-first, lines_in-last}

-- ---- pieces

pub IsPiece-append : (xs ys : List ℕ) → IsPiece xs → IsPiece ys → IsPiece (xs ++ ys)
IsPiece-append xs ys first rest = list_any-append is_newline xs ys ∙ (ap (λ b. b || list_any is_newline ys) first ∙ rest)

-- the bytes from a place on
pub viewed : (bytes all : List ℕ) → bytes ≡ all → (at : ℕ) → take (length bytes - at) (drop at bytes) ≡ drop at all
viewed bytes all same at = take_rest bytes at ∙ ap (drop at) same

-- what was looked at, and what is looked at now
pub newline_on : (bytes : List ℕ) (clear n : ℕ) → IsPiece (take clear bytes) → IsNewlineAt (drop clear bytes) n → IsNewlineAt bytes (clear + n)
newline_on bytes clear n none here =
    let cut : drop (n + 1) (drop clear bytes) ≡ drop (clear + (n + 1)) bytes = drop-drop (n + 1) clear bytes in
    let far : clear + (n + 1) ≡ clear + n + 1 = omega arith in
    record {
      whole = subst IsPiece (sym (take-add clear n bytes)) (IsPiece-append (take clear bytes) (take n (drop clear bytes)) none here.whole);
      is =
          sym (take-append-drop clear bytes)
          ∙ ap (λ rest. take clear bytes ++ rest) here.is
          ∙ sym (append_assoc (take clear bytes) (take n (drop clear bytes)) (10 ∷ drop (n + 1) (drop clear bytes)))
          ∙ ap (λ front. front ++ 10 ∷ drop (n + 1) (drop clear bytes)) (sym (take-add clear n bytes))
          ∙ ap (λ rest. take (clear + n) bytes ++ 10 ∷ rest) (cut ∙ ap (λ k. drop k bytes) far);
    }

pub none_on : (bytes : List ℕ) (clear : ℕ) → IsPiece (take clear bytes) → IsPiece (drop clear bytes) → IsPiece bytes
none_on bytes clear first rest = subst IsPiece (take-append-drop clear bytes) (IsPiece-append (take clear bytes) (drop clear bytes) first rest)

-- a newline stands within the bytes
pub newline_within : (bytes : List ℕ) (n : ℕ) → IsNewlineAt bytes n → n < length bytes
newline_within bytes n here =
    let whole : length bytes ≡ length (take n bytes ++ 10 ∷ drop (n + 1) bytes) = ap length here.is in
    let parts : length (take n bytes ++ 10 ∷ drop (n + 1) bytes) ≡ length (take n bytes) + length (10 ∷ drop (n + 1) bytes) = length-append (take n bytes) (10 ∷ drop (n + 1) bytes) in
    omega (arith, length-take n bytes)

pub pending_newline : (bytes : List ℕ) (start clear n : ℕ) → IsSearched bytes start clear → IsNewlineAt (drop (start + clear) bytes) n → IsNewlineAt (drop start bytes) (clear + n)
pending_newline bytes start clear n known here =
    newline_on (drop start bytes) clear n known.none (subst (λ rest. IsNewlineAt rest n) (sym (drop-drop clear start bytes)) here)

pub pending_none : (bytes : List ℕ) (start clear : ℕ) → IsSearched bytes start clear → IsPiece (drop (start + clear) bytes) → IsPiece (drop start bytes)
pending_none bytes start clear known none =
    none_on (drop start bytes) clear known.none (subst IsPiece (sym (drop-drop clear start bytes)) none)

pub searched_newline : (bytes : List ℕ) (start clear n : ℕ) → IsSearched bytes start clear → IsNewlineAt (drop (start + clear) bytes) n → IsSearched bytes start (clear + n)
searched_newline bytes start clear n known here =
    let within : n < length (drop (start + clear) bytes) = newline_within (drop (start + clear) bytes) n here in
    record {
      within = omega (arith, length-drop (start + clear) bytes);
      none = (pending_newline bytes start clear n known here).whole;
    }

pub searched_none : (bytes : List ℕ) (start clear : ℕ) → IsSearched bytes start clear → IsPiece (drop (start + clear) bytes) → IsSearched bytes start (length bytes - start)
searched_none bytes start clear known none =
    let all : take (length bytes - start) (drop start bytes) ≡ drop start bytes = take_rest bytes start in
    record {
      within = omega (arith, known.within);
      none = subst IsPiece (sym all) (pending_none bytes start clear known none);
    }

-- ---- reads

emptied : (more : List ℕ) (left later : Option (List ℕ)) → more ≡ [] → left ≡ preceded more later → IfSome left (λ bytes. bytes ≡ []) → IfSome later (λ bytes. bytes ≡ [])
emptied more left None none next h = tt
emptied more left (Some bytes) none next h =
    let told : IfSome (Some (more ++ bytes)) (λ bytes. bytes ≡ []) = subst (λ told. IfSome told (λ bytes. bytes ≡ [])) next h in
    subst (λ front. front ++ bytes ≡ []) none told

-- what a vector has, of which the end was written and cut
pub written_back : (old more longer buf post rest : List ℕ) (at n len most : ℕ) → longer ≡ take (at + most) old ++ more → at ≡ length old → n ≤ length buf → at + n ≤ len
    → take (at + n) (take len ((take at longer ++ (buf ++ post)) ++ rest)) ≡ take (length old + n) (old ++ buf)
written_back old more longer buf post rest at n len most is len_is fits within =
    let whole : take (at + most) old ≡ old = take_all (at + most) old (omega arith) in
    let front : take at longer ≡ old =
    ap (take at) (is ∙ ap (λ front. front ++ more) whole) ∙ take-append-le at old more (omega arith) ∙ take_all at old (omega arith) in
    let all : (take at longer ++ (buf ++ post)) ++ rest ≡ (old ++ buf) ++ (post ++ rest) =
    ap (λ front. (front ++ (buf ++ post)) ++ rest) front
    ∙ ap (λ front. front ++ rest) (sym (append_assoc old buf post)) ∙ append_assoc (old ++ buf) post rest in
    take-take (at + n) len ((take at longer ++ (buf ++ post)) ++ rest) within
    ∙ ap (take (at + n)) all
    ∙ take-append-le (at + n) (old ++ buf) (post ++ rest) (omega (arith, length-append old buf))
    ∙ ap (λ k. take (k + n) (old ++ buf)) len_is

pub reads_onto : (n : ℕ) (old buf new : List ℕ) (left later : Option (List ℕ)) → Reads n buf left later → 0 < length buf → new ≡ take (length old + n) (old ++ buf) → ReadsOnto n old new left later
reads_onto n old buf new left later reads room is =
    record {
      more = take n buf;
      count = omega (arith, reads.fits, length-take n buf);
      onto = is ∙ take-append-add old buf n;
      next = reads.next;
      at_end = λ none. emptied (take n buf) left later (ap (λ k. take k buf) none) reads.next (reads.at_end none room);
    }

-- ---- lines

-- before anything was read, the lines that are left are those of the source's bytes
pub lines_left-start : (left : Option (List ℕ)) → lines_left (record { pending = []; read = 0; ended = false }) left ≡ option_map (λ input. lines_in (slice_split is_newline input)) left
lines_left-start None = refl
lines_left-start (Some bytes) = refl

-- a newline among the bytes that are pending ends the first of the lines
pub lines_left-newline : (reading : Reading) (n : ℕ) (left : Option (List ℕ)) → IsNewlineAt reading.pending n
    → lines_left reading left ≡ preceded (strip_carriage_return (take n reading.pending) ∷ []) (lines_left (record reading { pending = drop (n + 1) reading.pending }) left)
lines_left-newline reading n left here = by_left (still_left reading.ended left)
  where
    by_left : (told : Option (List ℕ))
        → option_map (λ input. lines_in (slice_split is_newline input)) (preceded reading.pending told)
        ≡ preceded (strip_carriage_return (take n reading.pending) ∷ []) (option_map (λ input. lines_in (slice_split is_newline input)) (preceded (drop (n + 1) reading.pending) told))
    by_left None = refl
    by_left (Some bytes) =
        ap (λ input. Some (lines_in (slice_split is_newline (input ++ bytes)))) here.is
        ∙ ap (λ input. Some (lines_in (slice_split is_newline input))) (append_assoc (take n reading.pending) (10 ∷ drop (n + 1) reading.pending) bytes)
        ∙ ap Some (lines_in-first (take n reading.pending) (drop (n + 1) reading.pending ++ bytes) here.whole)

-- the last bytes, without a newline, are the last of the lines
pub lines_left-last : (reading : Reading) (n : ℕ) (left : Option (List ℕ)) → IsLast reading n
    → lines_left reading left ≡ preceded (strip_carriage_return (take n reading.pending) ∷ []) (lines_left (record reading { pending = drop n reading.pending }) left)
lines_left-last reading n left last =
    let all : take n reading.pending ≡ reading.pending = take_all n reading.pending (omega (arith, last.count)) in
    let none : drop n reading.pending ≡ [] = drop_of_length-le reading.pending (omega (arith, last.count)) in
    let some : 0 < length reading.pending = omega (arith, last.count, last.some) in
    by_left (still_left reading.ended left) (at_end reading.ended left last.ended) (by_piece reading.pending some last.no_line)
    ∙ ap (λ front. preceded (strip_carriage_return front ∷ []) (option_map (λ input. lines_in (slice_split is_newline input)) (preceded [] (still_left reading.ended left)))) (sym all)
    ∙ ap (λ rest. preceded (strip_carriage_return (take n reading.pending) ∷ []) (option_map (λ input. lines_in (slice_split is_newline input)) (preceded rest (still_left reading.ended left)))) (sym none)
  where
    at_end : (ended : Bool) (left : Option (List ℕ)) → ended ≡ true → IfSome (still_left ended left) (λ bytes. bytes ≡ [])
    at_end false left h = absurd (cc)
    at_end true None h = tt
    at_end true (Some bytes) h = refl

    by_piece : (piece : List ℕ) → 0 < length piece → IsPiece piece → lines_in (slice_split is_newline piece) ≡ strip_carriage_return piece ∷ []
    by_piece [] some none = absurd (omega arith)
    by_piece (b ∷ bs) some none = lines_in-last (b ∷ bs) none

    by_left : (told : Option (List ℕ)) → IfSome told (λ bytes. bytes ≡ []) → lines_in (slice_split is_newline reading.pending) ≡ strip_carriage_return reading.pending ∷ []
        → option_map (λ input. lines_in (slice_split is_newline input)) (preceded reading.pending told)
        ≡ preceded (strip_carriage_return reading.pending ∷ []) (option_map (λ input. lines_in (slice_split is_newline input)) (preceded [] told))
    by_left None none lines = refl
    by_left (Some bytes) none lines =
        ap (λ more. Some (lines_in (slice_split is_newline (reading.pending ++ more)))) none
        ∙ ap (λ input. Some (lines_in (slice_split is_newline input))) (append-nil reading.pending)
        ∙ ap Some lines
        ∙ ap (λ more. preceded (strip_carriage_return reading.pending ∷ []) (option_map (λ input. lines_in (slice_split is_newline input)) (preceded [] (Some more)))) (sym none)

-- ---- answers

-- what an answer says, where the first line was handed out
pub Answers-line : (line : List ℕ) (old new : Reading) (left later : Option (List ℕ)) → lines_left old left ≡ preceded (line ∷ []) (lines_left new later) → Answers (next_of line) old new left later
Answers-line line old new left later first = by_tests (is_long line) (is_quit line) refl refl
  where
    by_tests : (long quit : Bool) → is_long line ≡ long → is_quit line ≡ quit → Answers (if long then Long else if quit then Quit else Line line) old new left later
    by_tests true quit l q = record { line = line; first = first; long = l }
    by_tests false true l q = record { line = line; first = first; quit = q }
    by_tests false false l q = record { first = first; fits = l; goes_on = q }

pub handed_out : (result : Result Next ReadFault) (line rest : List ℕ) (old mid new : Reading) (left later : Option (List ℕ)) → IfOk result (λ next. next ≡ next_of line)
    → OnOk result (new ≡ record mid { pending = rest }) → input_left mid later ≡ input_left old left
    → lines_left mid later ≡ preceded (line ∷ []) (lines_left (record mid { pending = rest }) later)
    → IfOk result (λ next. Answers next old new left later)
handed_out (Err fault) line rest old mid new left later next is same first = tt
handed_out (Ok answer) line rest old mid new left later next is same first =
    subst (λ next. Answers next old new left later) (sym next)
    (subst (λ new. Answers (next_of line) old new left later) (sym is)
    (Answers-line line old (record mid { pending = rest }) left later (ap (option_map (λ input. lines_in (slice_split is_newline input))) (sym same) ∙ first)))

-- ---- what is left to be handed out or read

leaves_fewer : (next : Next) (old new : Reading) → bytes_left new < bytes_left old → LeavesFewer next old new
leaves_fewer (Line line) old new less = less
leaves_fewer Long old new less = less
leaves_fewer Quit old new less = tt
leaves_fewer End old new less = tt
leaves_fewer Full old new less = tt

-- some bytes of those that are pending were handed out
pub handed_out-fewer : (result : Result Next ReadFault) (count : ℕ) (old mid new : Reading) → OnOk result (new ≡ record mid { pending = drop count mid.pending })
    → bytes_left mid ≡ bytes_left old → 0 < count → count ≤ length mid.pending
    → IfOk result (λ next. LeavesFewer next old new)
handed_out-fewer (Err fault) count old mid new is kept some within = tt
handed_out-fewer (Ok next) count old mid new is kept some within =
    let less : (67108864 - mid.read) + length (drop count mid.pending) < bytes_left old = omega (arith, length-drop count mid.pending) in
    leaves_fewer next old new (subst (λ new. bytes_left new < bytes_left old) (sym is) less)

-- ---- what is behind the first newline

or_left : (a b : Bool) → (a || b) ≡ false → a ≡ false
or_left false b h = refl
or_left true b h = h

or_right : (a b : Bool) → (a || b) ≡ false → b ≡ false
or_right false b h = h
or_right true b h = absurd (let never : true ≡ false = h in cc)

pub behind_first : (piece rest : List ℕ) → IsPiece piece → behind_line (piece ++ 10 ∷ rest) ≡ rest
behind_first [] rest none = refl
behind_first (b ∷ piece) rest none =
    ap (λ t. if t then piece ++ 10 ∷ rest else behind_line (piece ++ 10 ∷ rest)) (or_left (is_newline b) (list_any is_newline piece) none)
    ∙ behind_first piece rest (or_right (is_newline b) (list_any is_newline piece) none)

pub behind_none : (piece : List ℕ) → IsPiece piece → behind_line piece ≡ []
behind_none [] none = refl
behind_none (b ∷ piece) none =
    ap (λ t. if t then piece else behind_line piece) (or_left (is_newline b) (list_any is_newline piece) none)
    ∙ behind_none piece (or_right (is_newline b) (list_any is_newline piece) none)

pub left_behind-newline : (reading : Reading) (n : ℕ) (left : Option (List ℕ)) → IsNewlineAt reading.pending n
    → input_left (record reading { pending = drop (n + 1) reading.pending }) left ≡ option_map behind_line (input_left reading left)
left_behind-newline reading n left here = by_left (still_left reading.ended left)
  where
    by_left : (told : Option (List ℕ)) → preceded (drop (n + 1) reading.pending) told ≡ option_map behind_line (preceded reading.pending told)
    by_left None = refl
    by_left (Some bytes) = sym
        (ap (λ input. Some (behind_line (input ++ bytes))) here.is
        ∙ ap (λ input. Some (behind_line input)) (append_assoc (take n reading.pending) (10 ∷ drop (n + 1) reading.pending) bytes)
        ∙ ap Some (behind_first (take n reading.pending) (drop (n + 1) reading.pending ++ bytes) here.whole))

pub left_behind-last : (reading : Reading) (n : ℕ) (left : Option (List ℕ)) → IsLast reading n
    → input_left (record reading { pending = drop n reading.pending }) left ≡ option_map behind_line (input_left reading left)
left_behind-last reading n left last = by_left (still_left reading.ended left) (at_end reading.ended left last.ended)
  where
    at_end : (ended : Bool) (left : Option (List ℕ)) → ended ≡ true → IfSome (still_left ended left) (λ bytes. bytes ≡ [])
    at_end false left h = absurd (cc)
    at_end true None h = tt
    at_end true (Some bytes) h = refl

    by_left : (told : Option (List ℕ)) → IfSome told (λ bytes. bytes ≡ []) → preceded (drop n reading.pending) told ≡ option_map behind_line (preceded reading.pending told)
    by_left None none = refl
    by_left (Some bytes) none =
        let gone : drop n reading.pending ≡ [] = drop_of_length-le reading.pending (omega (arith, last.count)) in
        ap (λ front. Some (front ++ bytes)) gone ∙ ap Some none
        ∙ sym (ap (λ more. Some (behind_line (reading.pending ++ more))) none
        ∙ ap (λ input. Some (behind_line input)) (append-nil reading.pending)
        ∙ ap Some (behind_none reading.pending last.no_line))

leaves_behind : (next : Next) (old new : Option (List ℕ)) → new ≡ option_map behind_line old → LeavesBehind next old new
leaves_behind (Line line) old new is = is
leaves_behind Long old new is = is
leaves_behind Quit old new is = tt
leaves_behind End old new is = tt
leaves_behind Full old new is = tt

pub handed_out-behind : (result : Result Next ReadFault) (rest : List ℕ) (old mid new : Reading) (left later : Option (List ℕ))
    → OnOk result (new ≡ record mid { pending = rest }) → input_left mid later ≡ input_left old left
    → input_left (record mid { pending = rest }) later ≡ option_map behind_line (input_left mid later)
    → IfOk result (λ next. LeavesBehind next (input_left old left) (input_left new later))
handed_out-behind (Err fault) rest old mid new left later is same behind = tt
handed_out-behind (Ok next) rest old mid new left later is same behind =
    leaves_behind next (input_left old left) (input_left new later) (ap (λ r. input_left r later) is ∙ behind ∙ ap (option_map behind_line) same)

-- ---- where the input is full

-- bytes with a newline are no piece
newline_no_piece : (bytes : List ℕ) (n : ℕ) → IsNewlineAt bytes n → IsPiece bytes → ⊥
newline_no_piece bytes n here piece =
    let any : list_any is_newline bytes ≡ true =
    ap (list_any is_newline) here.is ∙ (list_any-append is_newline (take n bytes) (10 ∷ drop (n + 1) bytes) ∙ ap (λ b. b || true) here.whole) in
    let none : list_any is_newline bytes ≡ false = piece in
    cc

-- what is pending there is what was read of the bytes that are left
pending_out : (mid new : Reading) (input left : Option (List ℕ)) → (out : IsOut new input left) → input_left mid left ≡ input → mid.ended ≡ false → mid.pending ≡ out.piece
pending_out mid new input left out same goes_on =
    let told : Some (mid.pending ++ out.rest) ≡ Some (out.piece ++ out.rest) =
    sym (ap (λ b. preceded mid.pending (still_left b left)) goes_on ∙ ap (λ o. preceded mid.pending o) out.left_is) ∙ (same ∙ out.input_is) in
    append_cancel_right mid.pending out.piece out.rest (some_is told)
  where
    some_is : {a b : List ℕ} → Some a ≡ Some b → a ≡ b
    some_is h = cc

-- where a newline is pending, the input is not full, nor at its end
pub not_full-newline : (result : Result Next ReadFault) (mid new : Reading) (n : ℕ) → OnErr result (new ≡ mid) → IsNewlineAt mid.pending n → IsErrOf result OutOfMemory
    → IsFull new → ⊥
not_full-newline (Ok next) mid new n same here err full = absurd (let never : Ok next ≡ Err OutOfMemory = err in cc)
not_full-newline (Err fault) mid new n same here err full = newline_no_piece mid.pending n here (subst (λ r. IsPiece r.pending) same full.no_line)

pub not_full-last : (result : Result Next ReadFault) (mid new : Reading) (n : ℕ) → OnErr result (new ≡ mid) → IsLast mid n → IsErrOf result OutOfMemory
    → IsFull new → ⊥
not_full-last (Ok next) mid new n same last err full = absurd (let never : Ok next ≡ Err OutOfMemory = err in cc)
not_full-last (Err fault) mid new n same last err full =
    let goes_on : mid.ended ≡ false = subst (λ r. r.ended ≡ false) same full.goes_on in
    let ended : mid.ended ≡ true = last.ended in
    cc

-- where a line is not handed out, it is one that is pending
pub lacks-newline : (result : Result Next ReadFault) (mid new : Reading) (n : ℕ) → OnErr result (new ≡ mid) → IsNewlineAt mid.pending n
    → OnErr result ((is_long (strip_carriage_return (take n mid.pending)) ≡ false) × (is_quit (strip_carriage_return (take n mid.pending)) ≡ false))
    → IsErrOf result OutOfMemory → WantsMemory new
lacks-newline (Ok next) mid new n same here fit err = absurd (let never : Ok next ≡ Err OutOfMemory = err in cc)
lacks-newline (Err fault) mid new n same here fit err =
    subst WantsMemory (sym same) (inr (record { n = n; found = inl here; fits = fit.0; goes_on = fit.1 }))

pub lacks-last : (result : Result Next ReadFault) (mid new : Reading) (n : ℕ) → OnErr result (new ≡ mid) → IsLast mid n
    → OnErr result ((is_long (strip_carriage_return (take n mid.pending)) ≡ false) × (is_quit (strip_carriage_return (take n mid.pending)) ≡ false))
    → IsErrOf result OutOfMemory → WantsMemory new
lacks-last (Ok next) mid new n same last fit err = absurd (let never : Ok next ≡ Err OutOfMemory = err in cc)
lacks-last (Err fault) mid new n same last fit err =
    subst WantsMemory (sym same) (inr (record { n = n; found = inr last; fits = fit.0; goes_on = fit.1 }))

-- whether a read has met the end is left as it is
kept_on : (result : Result Next ReadFault) (mid new : Reading) (rest : List ℕ) → OnOk result (new ≡ record mid { pending = rest }) → OnErr result (new ≡ mid) → new.ended ≡ mid.ended
kept_on (Ok next) mid new rest is same = ap (λ r. r.ended) is
kept_on (Err fault) mid new rest is same = ap (λ r. r.ended) same

pub out-newline : (result : Result Next ReadFault) (mid new : Reading) (n : ℕ) (rest : List ℕ) (input left : Option (List ℕ)) → OnOk result (new ≡ record mid { pending = rest })
    → OnErr result (new ≡ mid) → IsNewlineAt mid.pending n → input_left mid left ≡ input → IsOut new input left → IsNoLine result
out-newline result mid new n rest input left is err here same out = absurd
    (newline_no_piece mid.pending n here
    (subst IsPiece (sym (pending_out mid new input left out same (sym (kept_on result mid new rest is err) ∙ out.goes_on))) out.no_line))

pub out-last : (result : Result Next ReadFault) (mid new : Reading) (n : ℕ) (rest : List ℕ) (input left : Option (List ℕ)) → OnOk result (new ≡ record mid { pending = rest })
    → OnErr result (new ≡ mid) → IsLast mid n → IsOut new input left → IsNoLine result
out-last result mid new n rest input left is err last out =
    let ended : mid.ended ≡ true = last.ended in
    let goes_on : mid.ended ≡ false = sym (kept_on result mid new rest is err) ∙ out.goes_on in
    absurd (cc)

-- nor is memory wanting where all was read
pub out-err : (fault : ReadFault) (new : Reading) (input left : Option (List ℕ)) → (fault ≡ OutOfMemory → new.read < 67108864) → IsOut new input left
    → IsNoLine (Err fault)
out-err Failed new input left below out = tt
out-err OutOfMemory new input left below out = let less : new.read < 67108864 = below refl in omega (arith, out.read)

-- ---- what was read

preceded_more : (a b : List ℕ) (o : Option (List ℕ)) → preceded a (preceded b o) ≡ preceded (a ++ b) o
preceded_more a b None = refl
preceded_more a b (Some xs) = ap (λ ys. Some ys) (sym (append_assoc a b xs))

-- a read goes on where the last one stopped
pub has_read-more : (n : ℕ) (all left later : Option (List ℕ)) (old new : Reading) → HasRead all old left → old.read < 67108864
    → ReadsOnto n old.pending new.pending left later → new.read ≡ old.read + n → (new.ended ≡ true → n ≡ 0) → HasRead all new later
has_read-more n all left later old new h room r count ended = record {
  front = h.front ++ r.more;
  count = omega (arith, length-append h.front r.more, h.count, r.count, count);
  next = h.next ∙ (ap (preceded h.front) r.next ∙ preceded_more h.front r.more later);
  at_end = λ e. r.at_end (ended e);
  below = λ e. omega (arith, ended e, count);
}
