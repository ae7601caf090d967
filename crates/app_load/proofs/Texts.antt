-- What a made session prints, in three parts: the objects, the other lines, and the queries.
use Rattle.std.specs.Prelude.{suc, List, [], ◌∷◌, ◌++◌, ◌≡◌, ◌+◌, ◌≤◌, Option, ℕ, take, drop, length, map, refl}
use Rattle.std.specs.List.{concat}
use Rattle.std.proofs.Common.{ap, subst, ◌∙◌, append_assoc}
use Rattle.std.proofs.Math.Seq.{drop-append_seam, drop-append-add, take-append_seam}
use Rattle.hpx_parcel.specs.declared.parcel.Parcel.{Parcel}
use Rattle.hpx_journal.specs.declared.entry.Entry.{Entry}
use Rattle.hpx_journal.specs.Laws.{HasGrammar}
use Rattle.hpx_journal.specs.Pool.{NoneFails}
use Rattle.hpx_journal.specs.Sessions.{IsSession, entries_of, shown}
use Rattle.app_console.specs.declared.table.Console.TheVariants.{Space}
use Rattle.app_console.specs.Judging.{Acting, judging}
use Rattle.app_console.specs.Plain.{Plain, at_boot, line_end, texts_of}
use Rattle.app_console.specs.Text.{marked}
use Rattle.app_console.proofs.JournalText.{law_each_line}
use Rattle.app_compute.specs.Load.{lines_from, objects_from}
use Rattle.app_load.specs.Load.{after, made, end_of, queries, names, session_lines, texts_made, texts_asked}
use Rattle.app_load.proofs.Lines.{session_fits, session_few, count_lines}

texts_append : (n : ℕ) (v : Plain) (xs ys : List (List ℕ)) → texts_of Space n v (xs ++ ys) ≡ texts_of Space n v xs ++ texts_of Space n (after n v xs) ys
texts_append n v [] ys = refl
texts_append n v (x ∷ xs) ys = ap (λ ts. (line_end Space n v x).text ∷ ts) (texts_append n (line_end Space n v x).plain xs ys)

count_texts : (n : ℕ) (v : Plain) (xs : List (List ℕ)) → length (texts_of Space n v xs) ≡ length xs
count_texts n v [] = refl
count_texts n v (x ∷ xs) = ap suc (count_texts n (line_end Space n v x).plain xs)

module _ (start count n : ℕ) where
  making : List (List ℕ)
  making = texts_of Space n (at_boot n) (objects_from n 0 8)

  parts : texts_of Space n (at_boot n) (session_lines start count n) ≡ making ++ (texts_made start count n ++ texts_asked start count n)
  unfolding making
  parts =
      ap (texts_of Space n (at_boot n)) (append_assoc (objects_from n 0 8) (lines_from n start count) (queries (end_of start count n) names))
      ∙ (texts_append n (at_boot n) (objects_from n 0 8) (lines_from n start count ++ queries (end_of start count n) names)
      ∙ ap (λ ts. making ++ ts) (texts_append n (made n) (lines_from n start count) (queries (end_of start count n) names)))

  eight : length making ≡ 8
  unfolding making
  eight = count_texts n (at_boot n) (objects_from n 0 8)

  many : length (texts_made start count n) ≡ count
  many = count_texts n (made n) (lines_from n start count) ∙ count_lines n start count

  behind_eight : take count (drop 8 (making ++ (texts_made start count n ++ texts_asked start count n))) ≡ texts_made start count n
  behind_eight =
      let rest = texts_made start count n ++ texts_asked start count n in
      ap (take count) (subst (λ k. drop k (making ++ rest) ≡ rest) eight (drop-append_seam making rest))
      ∙ subst (λ k. take k rest ≡ texts_made start count n) many (take-append_seam (texts_made start count n) (texts_asked start count n))

  last_of_all : drop (8 + count) (making ++ (texts_made start count n ++ texts_asked start count n)) ≡ texts_asked start count n
  last_of_all =
      let rest = texts_made start count n ++ texts_asked start count n in
      subst (λ k. drop (k + count) (making ++ rest) ≡ drop count rest) eight (drop-append-add making rest count)
      ∙ subst (λ k. drop k rest ≡ texts_asked start count n) many (drop-append_seam (texts_made start count n) (texts_asked start count n))

  module _ (acts : Acting) (log limit : ℕ) (parcel_of : List ℕ → Option Parcel) (some : 1 ≤ n) (few : n ≤ 64) (short : count ≤ 20000)
      (blocks : List (List Entry)) (grammar : HasGrammar (judging acts n log limit parcel_of)) (calm : NoneFails (entries_of blocks))
      (session : IsSession (judging acts n log limit parcel_of) [] (marked 115 (session_lines start count n)) blocks) where
    texts : map concat (shown blocks) ≡ making ++ (texts_made start count n ++ texts_asked start count n)
    texts =
        law_each_line acts n log limit parcel_of some few Space 115 refl (session_lines start count n) blocks
        (session_few start count n short) (session_fits start count n some few) grammar calm session
        ∙ parts

    pub made_are : take count (drop 8 (map concat (shown blocks))) ≡ texts_made start count n
    made_are = ap (λ ts. take count (drop 8 ts)) texts ∙ behind_eight

    pub asked_are : drop (8 + count) (map concat (shown blocks)) ≡ texts_asked start count n
    asked_are = ap (drop (8 + count)) texts ∙ last_of_all
