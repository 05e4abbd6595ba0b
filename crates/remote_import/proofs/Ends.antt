-- How an import into a running server goes on and ends (`BringsText`), for bring_behind, bring_all and
-- bring_rows.
use Rattle.std.proofs.Common.{◌≡◌, ◌∙◌, ◌⊎◌, inl, inr, ℕ, ◌+◌, List, [], ◌∷◌, ◌++◌, length, length-append, Option, Some, None, Ok, Err, refl, sym, ap, subst, arith}
use Rattle.std.specs.Io.KnownBytes.{Appends}
use Rattle.std.proofs.KnownBytes.{Appends-nil, Appends-trans}
use Rattle.csv.specs.declared.reader.Reader.{Reader}
use Rattle.counted_io.specs.Bytes.{AppendsPart}
use Rattle.ua_settings.specs.Settings.{SettingsValues}
use Rattle.historian.specs.UserSpaces.{space_for}
use Rattle.history_csv.specs.Rows.{value_names}
use Rattle.history_import.specs.declared.asked.Import.{Import}
use Rattle.history_import.specs.declared.counts.Counts.{Counts}
use Rattle.history_import.specs.declared.fault.ImportFault.{ImportFault}
use Rattle.history_import.specs.declared.fault.ImportFault.TheVariants.{Header, Read, Write, OutOfMemory}
use Rattle.history_import.specs.declared.row_end.RowEnd.{RowEnd}
use Rattle.history_import.specs.Telling.{end_line, lines_from, counts_of, summary_of, fate_of, no_rows, with_one}
use Rattle.history_import.specs.Reading.{StandsBehind, ReadsHeader, TellsText}
use Rattle.history_import.proofs.ImportingLemmas.{lines-told, summary-told, line-told, either-stops, unread-stops}
use Rattle.history_import.proofs.StandingLemmas.{stands-first}
use Rattle.history_import.proofs.TellingLemmas.{lines-more, counts-more}
use Rattle.ua_client.specs.declared.fault.ClientFault.{ClientFault}
use Rattle.remote_import.specs.Bringing.{SessionState, BringsRows, BringsNext}
use Rattle.remote_import.specs.Imports.{BringsText}
use Rattle.remote_import.specs.declared.fault.RemoteFault.{RemoteFault}
use Rattle.remote_import.specs.declared.fault.RemoteFault.TheVariants.{Rows, Server}
use Rattle.remote_import.proofs.BroughtRows.{brings-more}

-- so far these rows were brought, told of and counted
pub record IsSoFar {F : Type 0} (rem : F → Option (List ℕ)) (reader : Reader F)
    (known : Option (List ℕ)) (settings : SettingsValues) (asked : Import)
    (old new : SessionState) (before after : Option (List ℕ)) (counts : Counts) (number : ℕ)
    : Type 0 where
  pub rows : List (List (List ℕ))
  pub ends : List RowEnd
  pub stands : StandsBehind rem reader known (value_names ∷ rows)
  pub brings : BringsRows (space_for settings asked.user.now) asked rows ends old new
  pub told : Appends before after (lines_from 1 ends)
  pub tally : counts ≡ counts_of ends
  pub place : number ≡ length ends + 1

module _ {F : Type 0} (rem : F → Option (List ℕ)) (known : Option (List ℕ))
    (settings : SettingsValues) (asked : Import) where
  -- none yet
  pub none-so-far : (reader : Reader F) (s : SessionState) (before : Option (List ℕ))
      (counts : Counts) → StandsBehind rem reader known (value_names ∷ []) → counts ≡ no_rows
      → IsSoFar rem reader known settings asked s s before before counts 1
  none-so-far reader s before counts stands is = record {
    rows = [];
    ends = [];
    stands = stands;
    brings = refl;
    told = Appends-nil before;
    tally = is;
    place = refl;
  }

  module _ (r1 r2 : Reader F) (a b c : SessionState) (first mid last : Option (List ℕ))
      (counts : Counts) (number : ℕ)
      (s : IsSoFar rem r1 known settings asked a b first mid counts number) where
    -- the row that was brought is the next one
    row-brings : (end : RowEnd)
        → (d : BringsNext rem r2 known (value_names ∷ s.rows) settings asked b c (Ok (Some end)))
        → BringsRows (space_for settings asked.user.now) asked (s.rows ++ d.0 ∷ [])
        (s.ends ++ end ∷ []) a c
    row-brings end d =
        brings-more (space_for settings asked.user.now) asked s.rows s.ends d.0 end a b c s.brings
        d.1

    -- one row more
    pub one-so-far : (end : RowEnd) (next : Counts) (after : ℕ)
        → BringsNext rem r2 known (value_names ∷ s.rows) settings asked b c (Ok (Some end))
        → Appends mid last (end_line number end) → next ≡ with_one counts (fate_of end)
        → after ≡ number + 1
        → IsSoFar rem r2 known settings asked a c first last next after
    one-so-far end next after d told is at =
        let place : number ≡ 1 + length s.ends = omega (arith, s.place) in record {
          rows = s.rows ++ d.0 ∷ [];
          ends = s.ends ++ end ∷ [];
          stands = d.2;
          brings = row-brings end d;
          told = subst (Appends first last) (sym (lines-more 1 s.ends end
              ∙ ap (λ n. lines_from 1 s.ends ++ end_line n end) (sym place)))
              (Appends-trans first mid last (lines_from 1 s.ends) (end_line number end) s.told
              told);
          tally = is ∙ ap (λ n. with_one n (fate_of end)) s.tally
              ∙ sym (counts-more no_rows s.ends end);
          place = omega (arith, s.place, at, length-append s.ends (end ∷ []));
        }

    -- it couldn't be told
    pub row-stops : (end : RowEnd) (why : ImportFault)
        → BringsNext rem r2 known (value_names ∷ s.rows) settings asked b c (Ok (Some end))
        → TellsText mid last (end_line number end) (Err why)
        → BringsText settings asked known a c first last (Err (Rows why))
    row-stops end why d (is, part) =
        let there = stands-first rem r2 known (value_names ∷ (s.rows ++ d.0 ∷ [])) d.2 in
        let told = line-told known (s.rows ++ d.0 ∷ []) first mid last s.ends end s.told
        (subst (λ n. AppendsPart mid last (end_line n end)) s.place part) in
        let stops = either-stops why known (s.rows ++ d.0 ∷ []) (s.ends ++ end ∷ []) first last is
        there told in record {
          rows = s.rows ++ d.0 ∷ [];
          ends = s.ends ++ end ∷ [];
          between = c;
          brings = row-brings end d;
          ended = (refl, stops.0, stops.1);
        }

    -- the text ended, and all was told
    pub text-ended : BringsNext rem r2 known (value_names ∷ s.rows) settings asked b c (Ok None)
        → Appends mid last (summary_of counts)
        → BringsText settings asked known a c first last (Ok counts)
    text-ended d told = record {
      rows = s.rows;
      ends = s.ends;
      between = b;
      brings = s.brings;
      ended = (
        d.0,
        d.1,
        s.tally,
        Appends-trans first mid last (lines_from 1 s.ends) (summary_of (counts_of s.ends)) s.told
            (subst (λ n. Appends mid last (summary_of n)) s.tally told),
      );
    }

    -- the text ended, and the summary couldn't be told
    pub summary-stops : (why : ImportFault)
        → BringsNext rem r2 known (value_names ∷ s.rows) settings asked b c (Ok None)
        → TellsText mid last (summary_of counts) (Err why)
        → BringsText settings asked known a c first last (Err (Rows why))
    summary-stops why d (is, part) =
        let stops = either-stops why known s.rows s.ends first last is
        (stands-first rem r1 known (value_names ∷ s.rows) s.stands)
        (summary-told known s.rows first mid last s.ends d.1 s.told
        (subst (λ n. AppendsPart mid last (summary_of n)) s.tally part)) in record {
          rows = s.rows;
          ends = s.ends;
          between = b;
          brings = s.brings;
          ended = (d.0, stops.0, stops.1);
        }

    -- the next row couldn't be read
    pub read-stops : (why : ImportFault)
        → BringsNext rem r2 known (value_names ∷ s.rows) settings asked b c (Err (Rows why))
        → BringsText settings asked known a c first mid (Err (Rows why))
    read-stops why d =
        let stops = unread-stops why known s.rows s.ends first mid d.1
        (stands-first rem r1 known (value_names ∷ s.rows) s.stands) s.told in record {
          rows = s.rows;
          ends = s.ends;
          between = b;
          brings = s.brings;
          ended = (d.0, stops.0, stops.1);
        }

    -- the server didn't answer the next row
    pub server-stops : (fault : ClientFault)
        → BringsNext rem r2 known (value_names ∷ s.rows) settings asked b c (Err (Server fault))
        → BringsText settings asked known a c first mid (Err (Server fault))
    server-stops fault (fields, sends, stands) = record {
      rows = s.rows;
      ends = s.ends;
      between = b;
      brings = s.brings;
      ended = (
        fields,
        stands-first rem r2 known (value_names ∷ (s.rows ++ fields ∷ [])) stands,
        sends,
        s.told,
      );
    }

    -- the next row wasn't brought
    pub next-stops : (fault : RemoteFault)
        → BringsNext rem r2 known (value_names ∷ s.rows) settings asked b c (Err fault)
        → BringsText settings asked known a c first mid (Err fault)
    next-stops (Rows why) d = read-stops why d
    next-stops (Server fault) d = server-stops fault d

  -- there are too many rows
  pub too-many : (reader : Reader F) (a b : SessionState) (first last : Option (List ℕ))
      (counts : Counts) (number : ℕ)
      → IsSoFar rem reader known settings asked a b first last counts number
      → BringsText settings asked known a b first last (Err (Rows OutOfMemory))
  too-many reader a b first last counts number s = record {
    rows = s.rows;
    ends = s.ends;
    between = b;
    brings = s.brings;
    ended = (
      refl,
      inl (stands-first rem reader known (value_names ∷ s.rows) s.stands),
      lines-told known s.rows first last s.ends s.told,
    );
  }

  -- the text doesn't begin by the header, or it couldn't be read
  pub header-stops : (reader : Reader F) (s : SessionState) (before : Option (List ℕ))
      (why : ImportFault) → ReadsHeader rem reader known (Err why)
      → BringsText settings asked known s s before before (Err (Rows why))
  header-stops reader s before Header lacks = record {
    rows = [];
    ends = [];
    between = s;
    brings = refl;
    ended = (refl, (lacks, refl), Appends-nil before);
  }
  header-stops reader s before Read read = record {
    rows = [];
    ends = [];
    between = s;
    brings = refl;
    ended = (refl, inr refl, Appends-nil before);
  }
  header-stops reader s before Write read = record {
    rows = [];
    ends = [];
    between = s;
    brings = refl;
    ended = (refl, inr refl, lines-told known [] before before [] (Appends-nil before));
  }
  header-stops reader s before OutOfMemory read = record {
    rows = [];
    ends = [];
    between = s;
    brings = refl;
    ended = (refl, inr refl, lines-told known [] before before [] (Appends-nil before));
  }

-- a read that failed, or want of memory where no call did, as it was judged
pub read-judged : (known : Option (List ℕ)) (settings : SettingsValues) (asked : Import)
    (old new : SessionState) (before after : Option (List ℕ)) (why : ImportFault)
    → (why ≡ Read) ⊎ (why ≡ OutOfMemory)
    → BringsText settings asked known old new before after (Err (Rows Read))
    → BringsText settings asked known old new before after (Err (Rows why))
read-judged known settings asked old new before after why (inl is) imports =
    subst (λ w. BringsText settings asked known old new before after (Err (Rows w))) (sym is) imports
read-judged known settings asked old new before after why (inr is) imports =
    subst (λ w. BringsText settings asked known old new before after (Err (Rows w))) (sym is)
    (record {
      rows = imports.rows;
      ends = imports.ends;
      between = imports.between;
      brings = imports.brings;
      ended = (
        imports.ended.0,
        imports.ended.1,
        lines-told known imports.rows before after imports.ends imports.ended.2,
      );
    })
