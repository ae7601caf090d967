-- What a state shows is of its kind's sort.
use Rattle.std.specs.Prelude.{ℕ, pos, negsuc, Bool, true, false, nat_le, List, [], ◌∷◌, ◌≡◌, ◌≤◌, ◌<◌, ◌==◌, ◌||◌, Option, Some, None, if◌then◌else◌}
use Rattle.std.proofs.Common.{arith, ap, sym, lit≤}
use Rattle.std.proofs.lemmas.Bool.{cond_both, eqb-true, leb-true, leb-false}
use Rattle.hpx_calls.specs.Values.{Nothing, Flag, Int, Look, Sort}
use Rattle.hpx_calls.specs.Contents
use Rattle.hpx_calls.specs.Contents.{Content, Pair, Given}
use Rattle.hpx_calls.specs.Sorts.{IsControl, IsNaming}

-- what is there, if anything is, is of the sort
abbrev Controls : {V : Type 0} → Option (Content V) → Type 0
Controls None = Unit {0}
Controls (Some x) = IsControl x

abbrev Names : {V : Type 0} → Option (Content V) → Type 0
Names None = Unit {0}
Names (Some x) = IsNaming x

control_provided : {V : Type 0} (b : Bool) (x : Content V) → IsControl x → Controls (Contents.provided b x)
control_provided true x h = h
control_provided false x h = tt

naming_provided : {V : Type 0} (b : Bool) (x : Content V) → IsNaming x → Names (Contents.provided b x)
naming_provided true x h = h
naming_provided false x h = tt

promise_controls : {V : Type 0} (w : ℕ) (vs : List V) → Controls (Contents.promise_in w vs)
promise_controls w [] = control_provided (nat_le w 7) (Contents.Promise None) tt
promise_controls w (v ∷ []) = control_provided (w == 0) (Contents.Promise (Some v)) tt
promise_controls w (v ∷ u ∷ vs) = tt

latch_at_controls : (V : Type 0) (w : ℕ) (o : Option ℕ) → Controls (Contents.latch_at {V = V} w o)
latch_at_controls V w None = tt
latch_at_controls V w (Some n) = control_provided (Contents.is_latch w n) (Contents.Latch n) tt

latch_controls : (V : Type 0) (w : ℕ) (l : Look) → Controls (Contents.latch_in {V = V} w l)
latch_controls V w (Int z) = latch_at_controls V w (Contents.count_in 1000000 z)
latch_controls V w _ = tt

barrier_at_controls : (V : Type 0) (w : ℕ) (o : Option ℕ) → Controls (Contents.barrier_at {V = V} w o)
barrier_at_controls V w None = tt
barrier_at_controls V w (Some n) = control_provided _ (Contents.Barrier n) tt

barrier_controls : (V : Type 0) (w : ℕ) (l : Look) → Controls (Contents.barrier_in {V = V} w l)
barrier_controls V w (Int z) = barrier_at_controls V w (Contents.count_in 100 z)
barrier_controls V w _ = tt

channel_controls : {V : Type 0} (k : Sort V) (w : ℕ) (l : Look) (vs : List V) → Controls (Contents.channel_in k w l vs)
channel_controls k w (Flag b) vs = control_provided (Contents.is_channel k w b vs) (Contents.Channel b vs) tt
channel_controls k w _ vs = tt

started_controls : (V : Type 0) (w code n : ℕ) (l : Look) → Controls (Contents.started_in {V = V} w code n l)
started_controls V w code n Nothing = control_provided (w == 0) (Contents.Started code n) tt
started_controls V w code n _ = tt

inputs_controls : {V : Type 0} (k : Sort V) (w code n : ℕ) (o : Option (List (Given V))) → Controls (Contents.inputs_in k w code n o)
inputs_controls k w code n None = tt
inputs_controls k w code n (Some given) = control_provided (Contents.is_given k w n given) (Contents.Dataflow code n given) tt

flow_controls : {V : Type 0} (k : Sort V) (w code n : ℕ) (vs : List V) → Controls (Contents.flow_in k w code n vs)
flow_controls k w code n [] = inputs_controls k w code n (Contents.given_in k [])
flow_controls k w code n (v ∷ []) = started_controls _ w code n (k.look v)
flow_controls k w code n (v ∷ u ∷ vs) = inputs_controls k w code n (Contents.given_in k (v ∷ u ∷ vs))

dataflow_at_controls : {V : Type 0} (k : Sort V) (w : ℕ) (a b : Option ℕ) (vs : List V) → Controls (Contents.dataflow_at k w a b vs)
dataflow_at_controls k w (Some code) (Some n) vs = cond_both (Contents.is_dataflow code n) _ _ Controls (λ e. flow_controls k w code n vs) (λ e. tt)
dataflow_at_controls k w (Some code) None vs = tt
dataflow_at_controls k w None b vs = tt

dataflow_controls : {V : Type 0} (k : Sort V) (w : ℕ) (a b : Look) (vs : List V) → Controls (Contents.dataflow_in k w a b vs)
dataflow_controls k w (Int x) (Int y) vs = dataflow_at_controls k w (Contents.count_in 65535 x) (Contents.count_in 16 y) vs
dataflow_controls k w _ _ vs = tt

of_one_controls : {V : Type 0} (k : Sort V) (f : Look → Option (Content V)) (vs : List V) → ((l : Look) → Controls (f l)) → Controls (Contents.of_one k f vs)
of_one_controls k f [] h = tt
of_one_controls k f (v ∷ []) h = h (k.look v)
of_one_controls k f (v ∷ u ∷ vs) h = tt

of_first_controls : {V : Type 0} (k : Sort V) (w : ℕ) (vs : List V) → Controls (Contents.of_first k (Contents.channel_in k w) vs)
of_first_controls k w [] = tt
of_first_controls k w (v ∷ vs) = channel_controls k w (k.look v) vs

of_two_controls : {V : Type 0} (k : Sort V) (w : ℕ) (vs : List V) → Controls (Contents.of_two k (Contents.dataflow_in k w) vs)
of_two_controls k w [] = tt
of_two_controls k w (v ∷ []) = tt
of_two_controls k w (v ∷ u ∷ vs) = dataflow_controls k w (k.look v) (k.look u) vs

control_controls : {V : Type 0} (k : Sort V) (kind w : ℕ) (vs : List V) → Controls (Contents.control_in k kind w vs)
control_controls k kind w vs =
    cond_both (kind == 32) _ _ Controls (λ e. promise_controls w vs) (λ e.
    cond_both (kind == 33) _ _ Controls (λ e. of_two_controls k w vs) (λ e.
    cond_both (kind == 34) _ _ Controls (λ e. of_first_controls k w vs) (λ e.
    cond_both (kind == 35) _ _ Controls (λ e. of_one_controls k (Contents.latch_in w) vs (latch_controls _ w)) (λ e.
    cond_both (kind == 36) _ _ Controls (λ e. of_one_controls k (Contents.barrier_in w) vs (barrier_controls _ w)) (λ e. tt)))))

or_controls : {V : Type 0} (vs : List V) (o : Option (Content V)) → Controls o → IsControl (Contents.or_unreadable vs o)
or_controls vs None h = tt
or_controls vs (Some x) h = h

-- from kind 32 on, what a state shows is of control objects, at any number of localities
pub control_content : {V : Type 0} (k : Sort V) (n kind w : ℕ) (vs : List V) → 32 ≤ kind → IsControl (Contents.content_of k n kind w vs)
control_content k n kind w vs h =
    cond_both (nat_le 32 kind) _ _ (λ o. IsControl (Contents.or_unreadable vs o)) (λ e. or_controls vs _ (control_controls k kind w vs))
    (λ e. absurd (above h e))
  where
    above : 32 ≤ kind → nat_le 32 kind ≡ false → ⊥
    above low e = omega (arith, leb-false 32 kind e)

pub same_control : {V : Type 0} (k : Sort V) (m n kind w : ℕ) (vs : List V) → 32 ≤ kind → Contents.content_of k m kind w vs ≡ Contents.content_of k n kind w vs
same_control k m n kind w vs h =
    cond_both (nat_le 32 kind) _ _ (λ o. Contents.or_unreadable vs o ≡ Contents.content_of k n kind w vs)
    (λ e. ap (Contents.or_unreadable vs) (ap (λ b. if b then Contents.control_in k kind w vs else (if w == 0 then Contents.resting_in k n kind vs else None)) (sym e)))
    (λ e. absurd (above h e))
  where
    above : 32 ≤ kind → nat_le 32 kind ≡ false → ⊥
    above low e = omega (arith, leb-false 32 kind e)

-- ---- name services

table_names : {V : Type 0} (o : Option (List (Pair V))) → Names (Contents.table_in o)
table_names None = tt
table_names (Some xs) = naming_provided (Contents.is_table xs) (Contents.Table xs) tt

maker_names : {V : Type 0} (vs : List V) → Names (Contents.maker_in vs)
maker_names [] = tt
maker_names (v ∷ vs) = tt

size_names : (V : Type 0) (n : ℕ) (l : Look) → Names (Contents.size_in {V = V} n l)
size_names V n (Int (pos m)) = naming_provided (m == n) (Contents.Size m) tt
size_names V n (Int (negsuc m)) = tt
size_names V n _ = tt

of_one_names : {V : Type 0} (k : Sort V) (n : ℕ) (vs : List V) → Names (Contents.of_one k (Contents.size_in n) vs)
of_one_names k n [] = tt
of_one_names k n (v ∷ []) = size_names _ n (k.look v)
of_one_names k n (v ∷ u ∷ vs) = tt

or_names : {V : Type 0} (vs : List V) (o : Option (Content V)) → Names o → IsNaming (Contents.or_unreadable vs o)
or_names vs None h = tt
or_names vs (Some x) h = h

resting_names : {V : Type 0} (k : Sort V) (n kind : ℕ) (vs : List V) → kind < 16 → Names (Contents.resting_in k n kind vs)
resting_names k n kind vs h =
    cond_both ((kind == 2) || (kind == 5)) _ _ Names (λ e. table_names (Contents.pairs_in k vs)) (λ e.
    cond_both (kind == 3) _ _ Names (λ e. maker_names vs) (λ e.
    cond_both (kind == 4) _ _ Names (λ e. of_one_names k n vs) (λ e.
    cond_both (kind == 16) _ _ Names (λ e. absurd (differs 16 (lit≤ tt) e)) (λ e.
    cond_both (kind == 17) _ _ Names (λ e. absurd (differs 17 (lit≤ tt) e)) (λ e. tt)))))
  where
    differs : (m : ℕ) → 16 ≤ m → (kind == m) ≡ true → ⊥
    differs m high e = omega (arith, eqb-true kind m e)

-- below kind 16, what a state shows is of name services
pub naming_content : {V : Type 0} (k : Sort V) (n kind w : ℕ) (vs : List V) → kind < 16 → IsNaming (Contents.content_of k n kind w vs)
naming_content k n kind w vs h =
    cond_both (nat_le 32 kind) _ _ (λ o. IsNaming (Contents.or_unreadable vs o)) (λ e. absurd (below h e))
    (λ e. or_names vs _ (cond_both (w == 0) _ _ Names (λ f. resting_names k n kind vs h) (λ f. tt)))
  where
    below : kind < 16 → nat_le 32 kind ≡ true → ⊥
    below low e = omega (arith, leb-true 32 kind e)
