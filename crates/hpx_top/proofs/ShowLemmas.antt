-- What goes to a sink, piece after piece.
use Rattle.std.specs.Prelude.{Result, Ok, Err, OnOk, OnErr, IfOk, IfErr, ◌≢◌}
use Rattle.std.specs.Result.{IsErrAnd}
use Rattle.std.specs.List.{concat, flat_map, slice_get}
use Rattle.std.proofs.Common.{ℕ, zero, suc, List, [], ◌∷◌, ◌++◌, ◌≡◌, ◌+◌, ◌<◌, ◌≤◌, length, map, take, drop, Option, Some, refl, sym, ap, ◌∙◌, subst, arith, append-nil, append_assoc}
use Rattle.std.proofs.lemmas.List.{take-append-drop, drop_all}
use Rattle.std.proofs.lemmas.List.Concat.{flat_map-cons}
use Rattle.std.proofs.lemmas.List.Folds.{concat-append}
use Rattle.hpx_journal.specs.declared.entry.Entry.{Entry}
use Rattle.hpx_journal.specs.Pool.{prints_by, prints_of}
use Rattle.hpx_own.specs.Texts.{audit_text, line_text}
use Rattle.hpx_world.specs.declared.audit.AuditLine.{AuditLine}
use Rattle.hpx_ports.specs.Told.{followed}
use Rattle.hpx_ports.specs.Bytes.{WritesPart}
use Rattle.hpx_top.specs.Session.{WritesFront, WritesUpTo}
use Rattle.hpx_top.proofs.LineLemmas.{followed_nothing, followed_twice}

pub part_front : (bytes : List ℕ) (old new : Option (List ℕ)) → WritesPart bytes old new → WritesFront bytes old new
part_front bytes old new w = record {
  front = take w.count bytes;
  begins = record { later = drop w.count bytes; is = take-append-drop w.count bytes };
  held = w.held;
}

-- nothing is the front of nothing
pub nothing_said : (held : Option (List ℕ)) → WritesFront [] held held
nothing_said held = record { front = []; begins = record { later = []; is = refl }; held = sym (followed_nothing held) }

-- what holds of whatever error
pub any_err : {T E : Type 0} (r : Result T E) (P : Type 0) → P → OnErr r P
any_err (Ok x) P h = tt
any_err (Err e) P h = h

-- what holds of whatever value
pub any_ok : {T E : Type 0} (r : Result T E) (P : Type 0) → P → OnOk r P
any_ok (Ok x) P h = h
any_ok (Err e) P h = tt

-- what holds of the error that is handed on
pub if_err_from : {T E : Type 0} (r : Result T E) (e : E) (Q : E → Type 0) → IsErrAnd r (λ y. y ≡ e) → Q e → IfErr r Q
if_err_from (Ok x) e Q h q = tt
if_err_from (Err y) e Q h q = subst Q (sym h) q

-- the error that is handed on is the one that came
pub err_of : {T E : Type 0} (r : Result T E) (e f : E) → IsErrAnd r (λ y. y ≡ e) → r ≡ Err f → e ≡ f
err_of (Ok x) e f h is = absurd h
err_of (Err y) e f h is = sym h ∙ (cc)

-- a value is no error
pub no_err : {T E : Type 0} (x : T) (e : E) → ◌≡◌ {A = Result T E} (Ok x) (Err e) → ⊥
no_err x e h = cc

-- the error that is handed on is answered
pub err_back : {T E : Type 0} (r : Result T E) (e : E) → IsErrAnd r (λ y. y ≡ e) → r ≡ Err e
err_back (Ok x) e h = absurd h
err_back (Err y) e h = ap (λ z. Err z) h

-- what came as an error, and is handed on, is answered
pub handed_on : {S T E : Type 0} (r : Result T E) (e f : E) → IsErrAnd r (λ y. y ≡ e) → ◌≡◌ {A = Result S E} (Err e) (Err f) → r ≡ Err f
handed_on r e f h is =
    let same : e ≡ f = cc in
    err_back r e h ∙ ap (λ x. Err x) same

-- what holds of a value, where there is no error
pub ok_there : {T E : Type 0} (r : Result T E) (P : Type 0) → ((e : E) → r ≡ Err e → ⊥) → OnOk r P → P
ok_there (Ok x) P never h = h
ok_there (Err e) P never h = absurd (never e refl)

-- the value that is there, where there is no error
pub ok_value : {T E : Type 0} (r : Result T E) (P : T → Type 0) → ((e : E) → r ≡ Err e → ⊥) → IfOk r P → (x : T) × P x
ok_value (Ok x) P never h = (x, h)
ok_value (Err e) P never h = absurd (never e refl)

-- ---- entry after entry

pub entry_at : (es : List Entry) (i : ℕ) → i < length es → (e : Entry) × (slice_get es i ≡ Some e) × (drop i es ≡ e ∷ drop (i + 1) es)
entry_at [] i h = absurd (omega arith)
entry_at (e ∷ es) zero h = (e, refl, refl)
entry_at (e ∷ es) (suc i) h =
    let next = entry_at es i (omega arith) in
    let more : suc i + 1 ≡ suc (i + 1) = omega arith in
    (next.0, next.1, next.2 ∙ ap (λ t. next.0 ∷ t) (sym (ap (λ n. drop n (e ∷ es)) more)))

pub rest_at : (es : List Entry) (i : ℕ) (e : Entry) → drop i es ≡ e ∷ drop (i + 1) es
    → concat (prints_of (drop i es)) ≡ concat (prints_by e.event) ++ concat (prints_of (drop (i + 1) es))
rest_at es i e h = ap (λ xs. concat (prints_of xs)) h ∙ concat-append (prints_by e.event) (prints_of (drop (i + 1) es))

pub up_to_start : (bytes : List ℕ) (held : Option (List ℕ)) → WritesUpTo bytes bytes held held
up_to_start bytes held = record { front = []; whole = refl; held = sym (followed_nothing held) }

pub up_to_more : (es : List Entry) (i : ℕ) (all : List ℕ) (old now new : Option (List ℕ)) → i < length es
    → WritesUpTo (concat (prints_of (drop i es))) all old now
    → ((e : Entry) → slice_get es i ≡ Some e → new ≡ followed now (concat (prints_by e.event)))
    → WritesUpTo (concat (prints_of (drop (i + 1) es))) all old new
up_to_more es i all old now new h w shown =
    let at = entry_at es i h in
    let text = concat (prints_by at.0.event) in
    let rest = concat (prints_of (drop (i + 1) es)) in
    record {
      front = w.front ++ text;
      whole = append_assoc w.front text rest ∙ (ap (λ t. w.front ++ t) (sym (rest_at es i at.0 at.2)) ∙ w.whole);
      held = shown at.0 at.1 ∙ (ap (λ o. followed o text) w.held ∙ followed_twice old w.front text);
    }

pub up_to_front : (es : List Entry) (i : ℕ) (all : List ℕ) (old now new : Option (List ℕ)) → i < length es
    → WritesUpTo (concat (prints_of (drop i es))) all old now
    → ((e : Entry) → slice_get es i ≡ Some e → WritesFront (concat (prints_by e.event)) now new) → WritesFront all old new
up_to_front es i all old now new h w shown =
    let at = entry_at es i h in
    let f = shown at.0 at.1 in
    let rest = concat (prints_of (drop (i + 1) es)) in
    record {
      front = w.front ++ f.front;
      begins = record {
        later = f.begins.later ++ rest;
        is = regroup w.front f.front f.begins.later rest
            ∙ (ap (λ t. w.front ++ (t ++ rest)) f.begins.is ∙ (ap (λ t. w.front ++ t) (sym (rest_at es i at.0 at.2)) ∙ w.whole));
      };
      held = f.held ∙ (ap (λ o. followed o f.front) w.held ∙ followed_twice old w.front f.front);
    }
  where
    regroup : (a b c d : List ℕ) → (a ++ b) ++ (c ++ d) ≡ a ++ ((b ++ c) ++ d)
    regroup a b c d = simp append_assoc

pub up_to_end : (es : List Entry) (i : ℕ) (all : List ℕ) (old new : Option (List ℕ)) → length es ≤ i
    → WritesUpTo (concat (prints_of (drop i es))) all old new → new ≡ followed old all
up_to_end es i all old new h w =
    let none : concat (prints_of (drop i es)) ≡ [] = ap (λ xs. concat (prints_of xs)) (drop_all i es h) in
    w.held ∙ ap (followed old) (sym (append-nil w.front) ∙ (ap (λ t. w.front ++ t) (sym none) ∙ w.whole))

-- ---- piece after piece

-- the text of the pieces from one on begins with its own
pieces_at : {X : Type 0} (f : X → List ℕ) (xs : List X) (i : ℕ) (x : X) → drop i xs ≡ x ∷ drop (i + 1) xs
    → concat (map f (drop i xs)) ≡ f x ++ concat (map f (drop (i + 1) xs))
pieces_at f xs i x h = ap (λ ys. concat (map f ys)) h

pub pieces_more : {X : Type 0} (f : X → List ℕ) (xs : List X) (i : ℕ) (x : X) (all : List ℕ) (old now new : Option (List ℕ)) → drop i xs ≡ x ∷ drop (i + 1) xs
    → WritesUpTo (concat (map f (drop i xs))) all old now → new ≡ followed now (f x) → WritesUpTo (concat (map f (drop (i + 1) xs))) all old new
pieces_more f xs i x all old now new at w held = record {
  front = w.front ++ f x;
  whole = append_assoc w.front (f x) (concat (map f (drop (i + 1) xs))) ∙ (ap (λ t. w.front ++ t) (sym (pieces_at f xs i x at)) ∙ w.whole);
  held = held ∙ (ap (λ o. followed o (f x)) w.held ∙ followed_twice old w.front (f x));
}

pub pieces_front : {X : Type 0} (f : X → List ℕ) (xs : List X) (i : ℕ) (x : X) (all : List ℕ) (old now new : Option (List ℕ)) → drop i xs ≡ x ∷ drop (i + 1) xs
    → WritesUpTo (concat (map f (drop i xs))) all old now → WritesFront (f x) now new → WritesFront all old new
pieces_front f xs i x all old now new at w part =
    let rest = concat (map f (drop (i + 1) xs)) in
    record {
      front = w.front ++ part.front;
      begins = record {
        later = part.begins.later ++ rest;
        is = regroup w.front part.front part.begins.later rest
            ∙ (ap (λ t. w.front ++ (t ++ rest)) part.begins.is ∙ (ap (λ t. w.front ++ t) (sym (pieces_at f xs i x at)) ∙ w.whole));
      };
      held = part.held ∙ (ap (λ o. followed o part.front) w.held ∙ followed_twice old w.front part.front);
    }
  where
    regroup : (a b c d : List ℕ) → (a ++ b) ++ (c ++ d) ≡ a ++ ((b ++ c) ++ d)
    regroup a b c d = simp append_assoc

pub pieces_end : {X : Type 0} (f : X → List ℕ) (xs : List X) (i : ℕ) (all : List ℕ) (old new : Option (List ℕ)) → length xs ≤ i
    → WritesUpTo (concat (map f (drop i xs))) all old new → new ≡ followed old all
pieces_end f xs i all old new h w =
    let none : concat (map f (drop i xs)) ≡ [] = ap (λ ys. concat (map f ys)) (drop_all i xs h) in
    w.held ∙ ap (followed old) (sym (append-nil w.front) ∙ (ap (λ t. w.front ++ t) (sym none) ∙ w.whole))

-- a text and a newline
pub line_front : (text end : List ℕ) (old mid new : Option (List ℕ)) → mid ≡ followed old text → WritesFront end mid new → WritesFront (text ++ end) old new
line_front text end old mid new held w = record {
  front = text ++ w.front;
  begins = record { later = w.begins.later; is = append_assoc text w.front w.begins.later ∙ ap (λ t. text ++ t) w.begins.is };
  held = w.held ∙ (ap (λ o. followed o w.front) held ∙ followed_twice old text w.front);
}

pub front_more : (text more : List ℕ) (old new : Option (List ℕ)) → WritesFront text old new → WritesFront (text ++ more) old new
front_more text more old new w = record {
  front = w.front;
  begins = record { later = w.begins.later ++ more; is = sym (append_assoc w.front w.begins.later more) ∙ ap (λ t. t ++ more) w.begins.is };
  held = w.held;
}

-- ---- the lines of an audit

flat : {X : Type 0} (f : X → List ℕ) (xs : List X) → flat_map f xs ≡ concat (map f xs)
flat f [] = refl
flat f (x ∷ xs) = flat_map-cons f x xs ∙ ap (λ t. f x ++ t) (flat f xs)

audit_some : (lines : List AuditLine) → lines ≢ [] → concat (map line_text lines) ≡ audit_text lines
audit_some [] some = absurd (some refl)
audit_some (x ∷ lines) some = sym (flat line_text (x ∷ lines))

pub audit_start : (lines : List AuditLine) (held : Option (List ℕ)) → lines ≢ [] → WritesUpTo (concat (map line_text lines)) (audit_text lines) held held
audit_start lines held some = record { front = []; whole = audit_some lines some; held = sym (followed_nothing held) }
