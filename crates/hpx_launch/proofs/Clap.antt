-- What clap makes of words.
use Rattle.std.proofs.Common.{◌≡◌, ℕ, Bool, List, [], ◌∷◌, true, false, cond, codes, refl, sym, ap, inl, inr, ◌∙◌, subst}
use Rattle.std.specs.Prelude.{Option, Some, None, Result, Ok, Err, unwrap_or, option_and_then, option_map, is_some}
use Rattle.std.specs.List.{list_all}
use Rattle.std.specs.Option.{ok_or}
use Rattle.std.specs.Result.{IsErrAnd}
use Rattle.std.specs.Str.{is_utf8}
use Rattle.clap.specs.Words.{App, FailsBy, HasKind, HasMatchesOf, IsAmong, Kinds, Row, all_of, fault_of, first_of, first_value, found_of, matched_of, raw_values, is_simple, is_simple_and_free, kind_of, matches_of, rows_of}
use Rattle.clap.specs.declared.error.Error.{Error}
use Rattle.clap.specs.declared.error.kind.ErrorKind.TheVariants as kind
use Rattle.clap.specs.declared.parser.matches.ArgMatches.{ArgMatches}
use Rattle.clap.specs.declared.parser.matches.Found.{Found}
use Rattle.clap.proofs.OnLiterals.{clap_on_literals}
use Rattle.clap.proofs.WalkLemmas.{first_value-rows, raw_values-rows}
use Rattle.hpx_launch.specs.declared.line.Launch.{Launch}
use Rattle.hpx_launch.specs.Lines.{faults_in, hpxrun, launch_in, launch_of, number_in, rows_in, where_right}

simple : is_simple hpxrun ≡ true
unfolding clap_on_literals hpxrun
simple = refl

free : is_simple_and_free hpxrun ≡ true
unfolding clap_on_literals hpxrun
free = refl

-- words that clap takes
pub taken : (app : App) (words : List (List ℕ)) (r : Result ArgMatches Error) (m : ArgMatches) → r ≡ Ok m → app ≡ hpxrun
    → (is_simple_and_free app ≡ true → FailsBy (fault_of app words) r) → faults_in words ≡ []
unfolding faults_in
taken app words r m is same fails =
    let by : FailsBy (fault_of hpxrun words) r = subst (λ a. FailsBy (fault_of a words) r) same (fails (ap is_simple_and_free same ∙ free)) in
    subst (λ s. FailsBy (fault_of hpxrun words) s) is by

pub found : (app : App) (words : List (List ℕ)) (m : ArgMatches) → app ≡ hpxrun → HasMatchesOf app words m → rows_of (found_of m) ≡ rows_in words
unfolding rows_in
found app words m same has =
    let rows : rows_of (found_of m) ≡ matches_of app words = (has (ap is_simple same ∙ simple)).0 in
    rows ∙ ap (λ a. matches_of a words) same

no_kind : (kinds : Kinds) (e : Error) → HasKind kinds e → (kind_of e ≡ kind.OutOfMemory → ⊥) → kinds ≡ [] → ⊥
no_kind kinds e has other none =
    elim has [ inl memory ↦ other memory | inr among ↦ (let nothing : IsAmong (kind_of e) [] = subst (IsAmong (kind_of e)) none among in nothing) ]

pub refused : (app : App) (words : List (List ℕ)) (r : Result ArgMatches Error) (e : Error) → r ≡ Err e → app ≡ hpxrun
    → (is_simple_and_free app ≡ true → FailsBy (fault_of app words) r) → (kind_of e ≡ kind.OutOfMemory → ⊥) → faults_in words ≡ [] → ⊥
unfolding faults_in
refused app words r e is same fails other none =
    let by : FailsBy (fault_of hpxrun words) r = subst (λ a. FailsBy (fault_of a words) r) same (fails (ap is_simple_and_free same ∙ free)) in
    let has : HasKind (fault_of hpxrun words) e = subst (FailsBy (fault_of hpxrun words)) is by in
    no_kind (fault_of hpxrun words) e has other none

-- the launch that matches with these values ask for
pub asked : (rows : List Row) (program : List ℕ) (localities port : ℕ) (words : List (List ℕ)) → first_of (codes "program") rows ≡ Some program
    → option_and_then (number_in 64) (first_of (codes "localities") rows) ≡ Some localities
    → option_and_then (number_in 65472) (first_of (codes "port") rows) ≡ Some port → unwrap_or (all_of (codes "words") rows) [] ≡ words
    → launch_of rows ≡ Some (record { program = program; localities = localities; port = port; words = words })
unfolding launch_of
asked rows program localities port words p l n w = rw (p, l, n, w) refl

pub no_program : (rows : List Row) → first_of (codes "program") rows ≡ None → launch_of rows ≡ None
unfolding launch_of
no_program rows p = rw p refl

none_of : {A B : Type 0} (f : A → Option B) (o : Option A) → ((x : A) → f x ≡ None) → option_and_then f o ≡ None
none_of f None h = refl
none_of f (Some x) h = h x

pub no_localities : (rows : List Row) → option_and_then (number_in 64) (first_of (codes "localities") rows) ≡ None → launch_of rows ≡ None
unfolding launch_of
no_localities rows l = none_of _ (first_of (codes "program") rows) (λ program. rw l refl)

pub no_port : (rows : List Row) → option_and_then (number_in 65472) (first_of (codes "port") rows) ≡ None → launch_of rows ≡ None
unfolding launch_of
no_port rows n =
    none_of _ (first_of (codes "program") rows) (λ program.
    none_of _ (option_and_then (number_in 64) (first_of (codes "localities") rows)) (λ localities. rw n refl))

-- ---- what getters read

module _ {X : Type 0} (now : X → List ℕ) (r : Option X) (f : Found) (id : List ℕ) (got : option_map now r ≡ first_value f id) where
  pub first_none : r ≡ None → first_of id (rows_of f) ≡ None
  first_none none = sym (first_value-rows f id) ∙ (sym got ∙ ap (option_map now) none)

  pub first_is : (x : X) → r ≡ Some x → first_of id (rows_of f) ≡ Some (now x)
  first_is x some = sym (first_value-rows f id) ∙ (sym got ∙ ap (option_map now) some)

-- where a value is wanted, there is one or there is none
pub none_from : {X : Type 0} (r : Option X) → false ≡ is_some r → r ≡ None
none_from None h = refl
none_from (Some x) h = cc

pub some_from : {X E : Type 0} (r : Option X) (e : E) (x : X) → ◌≡◌ {A = Result X E} (Ok x) (ok_or r e) → r ≡ Some x
some_from None e x h = cc
some_from (Some y) e x h = cc

-- the words that are handed on
module _ {X : Type 0} (all : X → List (List ℕ)) (r : Option X) (f : Found) (got : option_map all r ≡ option_map raw_values (matched_of f (codes "words"))) where
  pub words_none : r ≡ None → unwrap_or (all_of (codes "words") (rows_of f)) [] ≡ []
  words_none none = ap (λ o. unwrap_or o []) (sym (raw_values-rows f (codes "words")) ∙ (sym got ∙ ap (option_map all) none))

  pub words_some : (x : X) → r ≡ Some x → unwrap_or (all_of (codes "words") (rows_of f)) [] ≡ all x
  words_some x some = ap (λ o. unwrap_or o []) (sym (raw_values-rows f (codes "words")) ∙ (sym got ∙ ap (option_map all) some))

-- ---- what words ask for

pub bad_words : (words : List (List ℕ)) → list_all is_utf8 words ≡ false → launch_in words ≡ None
unfolding launch_in
bad_words words bad = rw bad refl

none_right : (kinds : Kinds) (asked : Option Launch) → (kinds ≡ [] → ⊥) → where_right kinds asked ≡ None
none_right [] asked some = absurd (some refl)
none_right (k ∷ ks) asked some = refl

none_either : (text : Bool) (o : Option Launch) → o ≡ None → cond text o None ≡ None
none_either true o none = none
none_either false o none = refl

pub refused_words : (words texts : List (List ℕ)) → texts ≡ words → (faults_in texts ≡ [] → ⊥) → launch_in words ≡ None
unfolding launch_in
refused_words words texts same some =
    none_either (list_all is_utf8 words) _ (none_right (faults_in words) (launch_of (rows_in words)) (λ none. some (ap faults_in same ∙ none)))

pub taken_words : (words texts : List (List ℕ)) (rows : List Row) (o : Option Launch) → texts ≡ words → list_all is_utf8 words ≡ true → faults_in texts ≡ []
    → rows ≡ rows_in texts → launch_of rows ≡ o → launch_in words ≡ o
unfolding launch_in
taken_words words texts rows o same text none are asks =
    let faults : faults_in words ≡ [] = sym (ap faults_in same) ∙ none in
    let found : launch_of (rows_in words) ≡ o = ap (λ ws. launch_of (rows_in ws)) (sym same) ∙ (sym (ap launch_of are) ∙ asks) in
    rw (text, faults) found

-- an error that is handed on as it is
pub handed_on : {T U E : Type 0} (r : Result T E) (e f : E) → IsErrAnd r (λ y. y ≡ e) → r ≡ Err f → ◌≡◌ {A = Result U E} (Err e) (Err f)
handed_on (Ok x) e f h is = absurd h
handed_on (Err y) e f h is = let same : y ≡ f = cc in ap (λ z. Err z) (sym h ∙ same)
