-- Rows that are done, told of and counted one after the other, and how that ends.
use Rattle.std.proofs.Common.{◌≡◌, ◌∙◌, ◌⊎◌, inl, inr, ◌≤◌, ℕ, ◌+◌, List, [], ◌∷◌, ◌++◌, length, length-append, take, Option, Some, None, Result, Ok, Err, refl, sym, ap, subst, append_assoc, append-nil, arith}
use Rattle.std.specs.Io.KnownBytes.{Appends}
use Rattle.std.proofs.KnownBytes.{Appends-nil, Appends-trans}
use Rattle.csv.specs.declared.reader.Reader.{Reader}
use Rattle.counted_io.specs.Bytes.{AppendsPart}
use Rattle.archive.specs.Store.{Store}
use Rattle.ua_settings.specs.Settings.{SettingsValues}
use Rattle.history_csv.specs.Rows.{value_names}
use Rattle.history_import.specs.declared.asked.Import.{Import}
use Rattle.history_import.specs.declared.counts.Counts.{Counts}
use Rattle.history_import.specs.declared.fault.ImportFault.{ImportFault}
use Rattle.history_import.specs.declared.fault.ImportFault.TheVariants.{Header, Read, Write, OutOfMemory}
use Rattle.history_import.specs.declared.row_end.RowEnd.{RowEnd}
use Rattle.history_import.specs.Telling.{end_line, lines_from, counts_of, summary_of, fate_of, no_rows, with_one}
use Rattle.history_import.specs.Imports.{DoesRows, HasFirstRecords, HasRecords, Imports, StopsAfter, TellsBefore, TellsPart}
use Rattle.history_import.specs.Reading.{StandsBehind, ReadsHeader, DoesRow, DoesOne, TellsText}
use Rattle.history_import.proofs.DoingLemmas.{done-none, done-more, done-still}
use Rattle.history_import.proofs.StandingLemmas.{stands-first}
use Rattle.history_import.proofs.TellingLemmas.{lines-more, counts-more}

-- ---- what was told

take-all : {X : Type 0} (xs : List X) → take (length xs) xs ≡ xs
take-all [] = refl
take-all (x ∷ xs) = ap (λ l. x ∷ l) (take-all xs)

take-first : {X : Type 0} (xs ys : List X) → take (length xs) (xs ++ ys) ≡ xs
take-first [] [] = refl
take-first [] (y ∷ ys) = refl
take-first (x ∷ xs) ys = ap (λ l. x ∷ l) (take-first xs ys)

-- all lines were told, and no more
pub lines-told : (known : Option (List ℕ)) (rows : List (List (List ℕ)))
    (before after : Option (List ℕ)) (ends : List RowEnd)
    → Appends before after (lines_from 1 ends) → TellsPart known rows ends before after
lines-told known rows before after ends told =
    let first = lines_from 1 (take (length ends) ends) in
    let lines : first ++ [] ≡ lines_from 1 ends =
    append-nil first ∙ ap (lines_from 1) (take-all ends) in (
      length ends,
      omega arith,
      [],
      [],
      inl (append-nil (first ++ []) ∙ lines),
      subst (Appends before after) (sym lines) told,
    )

-- all lines were told, and a first part of the summary
pub summary-told : (known : Option (List ℕ)) (rows : List (List (List ℕ)))
    (a b c : Option (List ℕ)) (ends : List RowEnd) → HasRecords known (value_names ∷ rows)
    → Appends a b (lines_from 1 ends) → AppendsPart b c (summary_of (counts_of ends))
    → TellsPart known rows ends a c
summary-told known rows a b c ends has told (sent, unsent, split, sends) =
    let all : take (length ends) ends ≡ ends = take-all ends in (
      length ends,
      omega arith,
      sent,
      unsent,
      inr (
        has,
        ap (λ l. lines_from 1 l ++ sent ++ unsent) all
            ∙ append_assoc (lines_from 1 ends) sent unsent
            ∙ sym (ap (λ l. lines_from 1 ends ++ l) split),
      ),
      subst (Appends a c) (sym (ap (λ l. lines_from 1 l ++ sent) all))
          (Appends-trans a b c (lines_from 1 ends) sent told sends),
    )

-- all lines but the last were told, and a first part of that
pub line-told : (known : Option (List ℕ)) (rows : List (List (List ℕ)))
    (a b c : Option (List ℕ)) (ends : List RowEnd) (end : RowEnd)
    → Appends a b (lines_from 1 ends) → AppendsPart b c (end_line (length ends + 1) end)
    → TellsPart known rows (ends ++ end ∷ []) a c
line-told known rows a b c ends end told (sent, unsent, split, sends) =
    let all : take (length ends) (ends ++ end ∷ []) ≡ ends = take-first ends (end ∷ []) in
    let lines = lines_from 1 ends in
    let long : length (ends ++ end ∷ []) ≤ length ends + 1 =
    omega (arith, length-append ends (end ∷ [])) in
    let place : 1 + length ends ≡ length ends + 1 = omega arith in
    let more : lines_from 1 (ends ++ end ∷ []) ≡ lines ++ end_line (length ends + 1) end =
    lines-more 1 ends end ∙ ap (λ n. lines ++ end_line n end) place in (
      length ends,
      long,
      sent,
      unsent,
      inl (ap (λ l. lines_from 1 l ++ sent ++ unsent) all ∙ append_assoc lines sent unsent
          ∙ sym (more ∙ ap (λ l. lines ++ l) split)),
      subst (Appends a c) (sym (ap (λ l. lines_from 1 l ++ sent) all))
          (Appends-trans a b c lines sent told sends),
    )

-- ---- how it ends

-- a write that failed, or no memory
pub either-stops : (why : ImportFault) (known : Option (List ℕ)) (rows : List (List (List ℕ)))
    (ends : List RowEnd) (before after : Option (List ℕ))
    → (why ≡ Write) ⊎ (why ≡ OutOfMemory) → HasFirstRecords known (value_names ∷ rows)
    → TellsPart known rows ends before after
    → StopsAfter why known rows × TellsBefore why known rows ends before after
either-stops why known rows ends before after (inl is) there told =
    subst (λ w. StopsAfter w known rows × TellsBefore w known rows ends before after) (sym is)
    (inl there, told)
either-stops why known rows ends before after (inr is) there told =
    subst (λ w. StopsAfter w known rows × TellsBefore w known rows ends before after) (sym is)
    (inl there, told)

-- a read that failed, or no memory
pub unread-stops : (why : ImportFault) (known : Option (List ℕ)) (rows : List (List (List ℕ)))
    (ends : List RowEnd) (before after : Option (List ℕ))
    → (why ≡ Read) ⊎ (why ≡ OutOfMemory) → HasFirstRecords known (value_names ∷ rows)
    → Appends before after (lines_from 1 ends)
    → StopsAfter why known rows × TellsBefore why known rows ends before after
unread-stops why known rows ends before after (inl is) there told =
    subst (λ w. StopsAfter w known rows × TellsBefore w known rows ends before after) (sym is)
    (inl there, told)
unread-stops why known rows ends before after (inr is) there told =
    subst (λ w. StopsAfter w known rows × TellsBefore w known rows ends before after) (sym is)
    (inl there, lines-told known rows before after ends told)

-- ---- what was done

-- so far these rows were done, each over what those before it left, told of and counted
pub record IsSoFar {R : Type 0} (rem : R → Option (List ℕ)) (reader : Reader R)
    (known : Option (List ℕ)) (settings : SettingsValues) (asked : Import) (old new : Store)
    (before after : Option (List ℕ)) (counts : Counts) (number : ℕ) : Type 0 where
  pub rows : List (List (List ℕ))
  pub ends : List RowEnd
  pub stands : StandsBehind rem reader known (value_names ∷ rows)
  pub does : DoesRows settings asked old new rows ends
  pub told : Appends before after (lines_from 1 ends)
  pub tally : counts ≡ counts_of ends
  pub place : number ≡ length ends + 1

module _ {R : Type 0} (rem : R → Option (List ℕ)) (known : Option (List ℕ))
    (settings : SettingsValues) (asked : Import) where
  -- none yet
  pub none-so-far : (reader : Reader R) (s : Store) (before : Option (List ℕ)) (counts : Counts)
      → StandsBehind rem reader known (value_names ∷ []) → counts ≡ no_rows
      → IsSoFar rem reader known settings asked s s before before counts 1
  none-so-far reader s before counts stands is = record {
    rows = [];
    ends = [];
    stands = stands;
    does = done-none settings asked s;
    told = Appends-nil before;
    tally = is;
    place = refl;
  }

  module _ (r1 r2 : Reader R) (a b c : Store) (first mid last : Option (List ℕ)) (counts : Counts)
      (number : ℕ) (s : IsSoFar rem r1 known settings asked a b first mid counts number)
      (set : SettingsValues) (same : set ≡ settings) where
    -- the row that was done is the next one
    row-does : (end : RowEnd) → (d : DoesOne rem r2 known (value_names ∷ s.rows) set asked b c
        (Ok (Some end)))
        → DoesRows settings asked a c (s.rows ++ d.0 ∷ []) (s.ends ++ end ∷ [])
    row-does end d = done-more settings asked a b c s.rows s.ends d.0 end s.does
        (subst (λ x. DoesRow x asked b c d.0 end) same d.1)

    -- one row more
    pub one-so-far : (end : RowEnd) (next : Counts) (after : ℕ)
        → DoesOne rem r2 known (value_names ∷ s.rows) set asked b c (Ok (Some end))
        → Appends mid last (end_line number end) → next ≡ with_one counts (fate_of end)
        → after ≡ number + 1
        → IsSoFar rem r2 known settings asked a c first last next after
    one-so-far end next after d told is at =
        let place : number ≡ 1 + length s.ends = omega (arith, s.place) in record {
          rows = s.rows ++ d.0 ∷ [];
          ends = s.ends ++ end ∷ [];
          stands = d.2;
          does = row-does end d;
          told = subst (Appends first last) (sym (lines-more 1 s.ends end
              ∙ ap (λ n. lines_from 1 s.ends ++ end_line n end) (sym place)))
              (Appends-trans first mid last (lines_from 1 s.ends) (end_line number end) s.told
              told);
          tally = is ∙ ap (λ n. with_one n (fate_of end)) s.tally
              ∙ sym (counts-more no_rows s.ends end);
          place = omega (arith, s.place, at, length-append s.ends (end ∷ []));
        }

    -- it couldn't be told
    pub row-stops : (end : RowEnd) (why : ImportFault)
        → DoesOne rem r2 known (value_names ∷ s.rows) set asked b c (Ok (Some end))
        → TellsText mid last (end_line number end) (Err why)
        → Imports settings asked a c known first last (Err why)
    row-stops end why d (is, part) =
        let there = stands-first rem r2 known (value_names ∷ (s.rows ++ d.0 ∷ [])) d.2 in
        let told = line-told known (s.rows ++ d.0 ∷ []) first mid last s.ends end s.told
        (subst (λ n. AppendsPart mid last (end_line n end)) s.place part) in (
          s.rows ++ d.0 ∷ [],
          s.ends ++ end ∷ [],
          row-does end d,
          either-stops why known (s.rows ++ d.0 ∷ []) (s.ends ++ end ∷ []) first last is there
              told,
        )

    -- the text ended, and all was told
    pub text-ended : DoesOne rem r2 known (value_names ∷ s.rows) set asked b c (Ok None)
        → Appends mid last (summary_of counts)
        → Imports settings asked a c known first last (Ok counts)
    text-ended d told = (
      s.rows,
      s.ends,
      done-still settings asked a b c s.rows s.ends s.does
          (subst (λ x. DoesRows x asked b c [] []) same d.1),
      (
        d.0,
        s.tally,
        Appends-trans first mid last (lines_from 1 s.ends) (summary_of (counts_of s.ends)) s.told
            (subst (λ n. Appends mid last (summary_of n)) s.tally told),
      ),
    )

    -- the text ended, and the summary couldn't be told
    pub summary-stops : (why : ImportFault)
        → DoesOne rem r2 known (value_names ∷ s.rows) set asked b c (Ok None)
        → TellsText mid last (summary_of counts) (Err why)
        → Imports settings asked a c known first last (Err why)
    summary-stops why d (is, part) = (
      s.rows,
      s.ends,
      done-still settings asked a b c s.rows s.ends s.does
          (subst (λ x. DoesRows x asked b c [] []) same d.1),
      either-stops why known s.rows s.ends first last is
          (stands-first rem r1 known (value_names ∷ s.rows) s.stands)
          (summary-told known s.rows first mid last s.ends d.0 s.told
          (subst (λ n. AppendsPart mid last (summary_of n)) s.tally part)),
    )

    -- the next row couldn't be read
    pub read-stops : (why : ImportFault)
        → DoesOne rem r2 known (value_names ∷ s.rows) set asked b c (Err why)
        → Imports settings asked a c known first mid (Err why)
    read-stops why d = (
      s.rows,
      s.ends,
      done-still settings asked a b c s.rows s.ends s.does
          (subst (λ x. DoesRows x asked b c [] []) same d.0),
      unread-stops why known s.rows s.ends first mid d.1
          (stands-first rem r1 known (value_names ∷ s.rows) s.stands) s.told,
    )

  -- there are too many rows
  pub too-many : (reader : Reader R) (a b : Store) (first last : Option (List ℕ))
      (counts : Counts) (number : ℕ)
      → IsSoFar rem reader known settings asked a b first last counts number
      → Imports settings asked a b known first last (Err OutOfMemory)
  too-many reader a b first last counts number s = (
    s.rows,
    s.ends,
    s.does,
    (
      inl (stands-first rem reader known (value_names ∷ s.rows) s.stands),
      lines-told known s.rows first last s.ends s.told,
    ),
  )

  -- the text doesn't begin by the header, or it couldn't be read
  pub header-stops : (reader : Reader R) (s : Store) (before : Option (List ℕ))
      (why : ImportFault) → ReadsHeader rem reader known (Err why)
      → Imports settings asked s s known before before (Err why)
  header-stops reader s before Header lacks =
      ([], [], done-none settings asked s, ((lacks, refl), Appends-nil before))
  header-stops reader s before Read read =
      ([], [], done-none settings asked s, (inr refl, Appends-nil before))
  header-stops reader s before Write read = (
    [],
    [],
    done-none settings asked s,
    (inr refl, lines-told known [] before before [] (Appends-nil before)),
  )
  header-stops reader s before OutOfMemory read = (
    [],
    [],
    done-none settings asked s,
    (inr refl, lines-told known [] before before [] (Appends-nil before)),
  )

-- a read that failed, or want of memory where no call did, as it was judged
pub read-judged : (known : Option (List ℕ)) (settings : SettingsValues) (asked : Import)
    (old new : Store) (before after : Option (List ℕ)) (why : ImportFault)
    → (why ≡ Read) ⊎ (why ≡ OutOfMemory)
    → Imports settings asked old new known before after (Err Read)
    → Imports settings asked old new known before after (Err why)
read-judged known settings asked old new before after why (inl is) imports =
    subst (λ w. Imports settings asked old new known before after (Err w)) (sym is) imports
read-judged known settings asked old new before after why (inr is)
    (rows, ends, done, (stops, told)) =
    subst (λ w. Imports settings asked old new known before after (Err w)) (sym is)
    (rows, ends, done, (stops, lines-told known rows before after ends told))
