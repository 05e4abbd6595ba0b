-- Items of a JSON array: what says a text, and what they are once written.
use Rattle.std.proofs.Common.{◌≡◌, ℕ, ◌+◌, ◌<◌, List, [], ◌∷◌, ◌++◌, map, get_or, length, take, cond, Some, Result, Ok, Err, ok_or, refl, sym, ap, ◌∙◌}
use Rattle.std.proofs.lemmas.List.{append_assoc, map_push, map_more}
use Rattle.json.specs.Lex.{tokens}
use Rattle.json.specs.Print.{print}
use Rattle.json.specs.Token.{Token}
use Rattle.json.specs.Token as token
use Rattle.json.specs.Written.{Written}
use Rattle.ua_variant.specs.declared.value.Scalar.{Scalar}
use Rattle.history_text.specs.Arrays.{◌>>?◌, item_text, item_in, all_said, listed, AppendsItem, AreItemsOf, IsItemOf, IsListText, IsNumeric, IsQuoted, PutsItem, PutsItems}
use Rattle.history_text.specs.Values.{IsValueText}
use Rattle.history_text.specs.declared.fault.TextFault.{TextFault}
use Rattle.history_text.specs.declared.fault.TextFault.TheVariants.{NoArray}

-- the item that a value is written as says what its text says
puts_item : {A : Type 0} (said : List ℕ → Result A TextFault) (old new : Written) (value : Scalar)
    (item : Token) (text : List ℕ) (again : A) → IsItemOf value item → item_text item ≡ Some text
    → said text ≡ Ok again → AppendsItem old new item → PutsItem said old new value again
puts_item said old new value item text again is spelled says put = record {
  item = item;
  is = is;
  puts = put;
  says = ap (λ o. ok_or o NoArray >>? said) spelled ∙ says;
}

-- a number without quotes
pub puts_number : {A : Type 0} (said : List ℕ → Result A TextFault) (old new : Written)
    (value : Scalar) (text : List ℕ) (again : A) → IsNumeric value → IsValueText value text
    → said text ≡ Ok again → AppendsItem old new (token.number text)
    → PutsItem said old new value again
puts_number said old new value text again numeric is says put =
    puts_item said old new value (token.number text) text again (numeric, is) refl says put

-- a text between quotes
pub puts_string : {A : Type 0} (said : List ℕ → Result A TextFault) (old new : Written)
    (value : Scalar) (text : List ℕ) (again : A) → IsQuoted value text → IsValueText value text
    → said text ≡ Ok again → AppendsItem old new (token.string text)
    → PutsItem said old new value again
puts_string said old new value text again quoted is says put =
    puts_item said old new value (token.string text) text again (quoted, is) refl says put

-- one item more
pub items_push : (values : List Scalar) (items : List Token) (value : Scalar) (item : Token)
    → AreItemsOf values items → IsItemOf value item
    → AreItemsOf (values ++ value ∷ []) (items ++ item ∷ [])
items_push [] [] value item are is = (is, tt)
items_push [] (t ∷ ts) value item are is = absurd are
items_push (v ∷ vs) [] value item are is = absurd are
items_push (v ∷ vs) (t ∷ ts) value item are is = (are.0, items_push vs ts value item are.1 is)

-- the items of a list's first values, and that of the next one behind them
pub values_push : {A B : Type 0} (said : List ℕ → Result B TextFault) (first old new : Written)
    (alone : A → Scalar) (again : A → B) (xs : List A) (i : ℕ) (d : A) → i < length xs
    → PutsItems said first old (map alone (take i xs)) (map again (take i xs))
    → PutsItem said old new (alone (get_or xs i d)) (again (get_or xs i d))
    → PutsItems said first new (map alone (take (i + 1) xs)) (map again (take (i + 1) xs))
values_push said first old new alone again xs i d within put one =
    let front = map again (take i xs) in
    let next = again (get_or xs i d) in
    rw (map_more alone xs i d within, map_more again xs i d within) (record {
      items = put.items ++ one.item ∷ [];
      are = items_push (map alone (take i xs)) put.items (alone (get_or xs i d)) one.item put.are
          one.is;
      before = one.puts.0 ∙ put.before;
      tokens = one.puts.1 ∙ ap (λ ts. ts ++ one.item ∷ []) put.tokens
          ∙ append_assoc first.tokens put.items (one.item ∷ []);
      say = map_push (item_in said) put.items one.item
          ∙ ap (λ l. l ++ item_in said one.item ∷ []) put.say
          ∙ ap (λ r. map Ok front ++ r ∷ []) one.says ∙ sym (map_push Ok front next);
    })

-- ---- reading

-- values, with others in front of them
abbrev pub with_front : {A : Type 0} → List A → Result (List A) TextFault
    → Result (List A) TextFault
with_front front result = result >>? λ values. Ok (front ++ values)

-- nothing in front
pub no_front : {A : Type 0} (result : Result (List A) TextFault) → with_front [] result ≡ result
no_front (Ok values) = refl
no_front (Err why) = refl

-- one value more in front
pub longer_front : {A : Type 0} (front : List A) (value : A) (result : Result (List A) TextFault)
    → with_front front (result >>? λ values. Ok (value ∷ values))
    ≡ with_front (front ++ value ∷ []) result
longer_front front value (Ok values) = ap Ok (sym (append_assoc front (value ∷ []) values))
longer_front front value (Err why) = refl

-- a value, with those that items say behind it
abbrev pub before_items : {A : Type 0} (said : List ℕ → Result A TextFault) → List Token → A
    → Result (List A) TextFault
before_items said items value = all_said said items >>? λ values. Ok (value ∷ values)

-- an item that isn't the end says a value, or why it says none
pub item_step : {A : Type 0} (said : List ℕ → Result A TextFault) (item : Token)
    (items : List Token) → (item ≡ token.end_array → ⊥)
    → all_said said (item ∷ items) ≡ (item_in said item >>? before_items said items)
item_step said token.begin_object items other = refl
item_step said token.end_object items other = refl
item_step said token.begin_array items other = refl
item_step said token.end_array items other = absurd (other refl)
item_step said (token.key s) items other = refl
item_step said (token.string s) items other = refl
item_step said (token.number s) items other = refl
item_step said (token.boolean b) items other = refl
item_step said token.null items other = refl
item_step said token.bad items other = refl

-- ---- writing

-- what a list begins by
abbrev head_or : {A : Type 0} → A → List A → A
head_or d [] = d
head_or d (x ∷ xs) = x

-- what is behind that
abbrev tail_of : {A : Type 0} → List A → List A
tail_of [] = []
tail_of (x ∷ xs) = xs

-- an end says no value
no_end : {A : Type 0} (said : List ℕ → Result A TextFault) (item : Token) (value : A)
    → item ≡ token.end_array → item_in said item ≡ Ok value → ⊥
no_end said item value is says = absurd (cc (sym (ap (item_in said) is), says))

-- what the items of these tokens say, if they begin an array
abbrev listed_of : {A : Type 0} (said : List ℕ → Result A TextFault) → List Token
    → Result (List A) TextFault
listed_of said ts =
    elim ts [
      | token.begin_array ∷ items ↦ all_said said items
      | _ ↦ Err NoArray
    ]

-- items that say values say them up to an array's end
pub items_said : {A : Type 0} (said : List ℕ → Result A TextFault) (items : List Token)
    (values : List A) → map (item_in said) items ≡ map Ok values
    → all_said said (items ++ token.end_array ∷ []) ≡ Ok values
items_said said [] [] h = refl
items_said said [] (v ∷ vs) h = absurd cc
items_said said (t ∷ ts) [] h = absurd cc
items_said said (t ∷ ts) (v ∷ vs) h =
    let says : item_in said t ≡ Ok v = ap (head_or (Err NoArray)) h in
    let others = items_said said ts vs (ap tail_of h) in
    item_step said t (ts ++ token.end_array ∷ []) (λ is. no_end said t v is says)
    ∙ ap (λ r. r >>? before_items said (ts ++ token.end_array ∷ [])) says
    ∙ ap (λ r. r >>? λ values. Ok (v ∷ values)) others

-- what stands between an array's begin and its end
module _ {A : Type 0} (said : List ℕ → Result A TextFault) (first second third : Written)
    (values : List Scalar) (again : List A) (text : List ℕ) (front : first.before ≡ [])
    (begun : first.tokens ≡ token.begin_array ∷ []) (put : PutsItems said first second values again)
    (behind : third.before ≡ second.before)
    (ends : third.tokens ≡ second.tokens ++ token.end_array ∷ [])
    (is : text ≡ third.before ++ print third.tokens) where
  -- the tokens of the whole
  whole : third.tokens ≡ token.begin_array ∷ (put.items ++ token.end_array ∷ [])
  whole = ends ∙ ap (λ ts. ts ++ token.end_array ∷ []) (put.tokens ∙ ap (λ ts. ts ++ put.items) begun)

  -- nothing stands in front of them
  letters : text ≡ print third.tokens
  letters = is ∙ ap (λ b. b ++ print third.tokens) (behind ∙ put.before ∙ front)

  -- the text is that of the values' items
  pub spelled_written : IsListText values text
  spelled_written = (put.items, put.are, letters ∙ ap print whole)

  -- it says what the items say
  pub spelled_is : tokens (print third.tokens) ≡ third.tokens → listed said text ≡ Ok again
  spelled_is read =
      ap (listed_of said) (ap tokens letters ∙ read ∙ whole)
      ∙ items_said said put.items again put.say
