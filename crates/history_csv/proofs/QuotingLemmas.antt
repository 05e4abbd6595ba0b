-- The text of a row as it is written byte by byte.
use Rattle.std.proofs.Common.{◌≡◌, ℕ, ◌==◌, List, [], ◌∷◌, ◌++◌, append_assoc, length, length-append, refl, sym, ap, ◌∙◌, arith}
use Rattle.std.proofs.lemmas.Bool.{ne_eqb}
use Rattle.std.specs.Prelude.{if◌then◌else◌}
use Rattle.csv.specs.Writing.{default_writer, is_blank, row_body, row_text, field_text, fields_text}
use Rattle.csv.specs.declared.writer.WriterBuilder.{WriterBuilder}

-- a row shows nothing where its text is empty
pub blank_is_empty : (cfg : WriterBuilder) (fields : List (List ℕ))
    → is_blank cfg fields ≡ (length (row_body cfg fields) == 0)
unfolding is_blank fields_text
blank_is_empty cfg [] = refl
blank_is_empty cfg (f ∷ []) =
    ap (λ n. n == 0) (sym (length-append (field_text cfg f) [] ∙ omega arith))
blank_is_empty cfg (f ∷ g ∷ rest) =
    sym (ne_eqb _ 0 (λ e. omega (
      arith,
      e,
      length-append (field_text cfg f)
          (cfg.delimiter ∷ (field_text cfg g ++ fields_text cfg rest)),
    )))

-- a row's text, of its parts
pub row_made : (fields : List (List ℕ)) (empty body shown text : List ℕ) → empty ≡ []
    → body ≡ empty ++ row_body default_writer fields
    → shown ≡ body ++ (if length body == 0 then 34 ∷ 34 ∷ [] else [])
    → text ≡ shown ++ 10 ∷ [] → text ≡ row_text default_writer fields
row_made fields empty body shown text none p q r =
    let of = row_body default_writer fields in
    let is : body ≡ of = p ∙ ap (λ l. l ++ of) none in
    r
    ∙ (ap (λ l. l ++ 10 ∷ [])
    (q ∙ ap (λ l. l ++ (if length l == 0 then 34 ∷ 34 ∷ [] else [])) is)
    ∙ (append_assoc of (if length of == 0 then 34 ∷ 34 ∷ [] else []) (10 ∷ [])
    ∙ ap (λ b. of ++ ((if b then 34 ∷ 34 ∷ [] else []) ++ 10 ∷ []))
    (sym (blank_is_empty default_writer fields))))
