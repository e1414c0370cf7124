-- What stands between an opening and its end, byte by byte: the inside of a block comment, a STRING, a BLOCK and a documentation.
use Rattle.std.specs.Prelude.{◌≡◌, ℕ, ◌+◌, List, [], ◌∷◌, Option, Some, None, option_map, Bool, false, ◌==◌, ◌||◌, if◌then◌else◌}
use Rattle.room_lexer.specs.declared.enclosed.Place.{Place}
use Rattle.room_lexer.specs.declared.enclosed.Place.TheVariants as places
use Rattle.room_lexer.specs.declared.enclosed.Step.{Step}
use Rattle.room_lexer.specs.declared.enclosed.Step.TheVariants.{On, Ends, Breaks}

-- space, tab, carriage return or line feed
abbrev pub is_blank : ℕ → Bool
is_blank b = b == 32 || b == 9 || b == 13 || b == 10

-- What a byte does at a place. 42 is `*`, 47 `/`, 39 a single quote, 34 a quote, 92 a backslash, 10 a line feed, 93 `]`.
unfoldable pub walk : Place → ℕ → Step
walk places.Comment b = if b == 42 then On places.CommentStar else On places.Comment
walk places.CommentStar b = if b == 47 then Ends else if b == 42 then On places.CommentStar else On places.Comment
walk places.Block b = if b == 39 then On places.BlockQuote else On places.Block
walk places.BlockQuote b = if b == 39 then On places.BlockQuotes else On places.Block
walk places.BlockQuotes b = if b == 39 then Ends else On places.Block
walk places.Text b = if b == 34 then Ends else if b == 10 then Breaks else if b == 92 then On places.TextTaken else On places.Text
walk places.TextTaken b = if b == 10 then Breaks else On places.Text
walk places.Between b = if b == 93 then Ends else if b == 34 then On places.Quoted else if is_blank b then On places.Between else Breaks
walk places.Quoted b = if b == 34 then On places.Between else if b == 10 then Breaks else if b == 92 then On places.QuotedTaken else On places.Quoted
walk places.QuotedTaken b = if b == 10 then Breaks else On places.Quoted

abbrev pub After : (Place → Type 0) → List ℕ → Step → Type 0
After more bs (On q) = more q
After more bs Ends = bs ≡ []
After more bs Breaks = ⊥

-- the bytes lead on from the place, and the last of them ends it
abbrev pub Closes : Place → List ℕ → Type 0
Closes place [] = ⊥
Closes place (b ∷ bs) = After (λ q. Closes q bs) bs (walk place b)

abbrev pub len_after : (Place → Option ℕ) → Step → Option ℕ
len_after more (On q) = option_map (λ n. 1 + n) (more q)
len_after more Ends = Some 1
len_after more Breaks = None

-- how many bytes there are up to the end and with it
unfoldable pub closed_len : Place → List ℕ → Option ℕ
closed_len place [] = None
closed_len place (b ∷ bs) = len_after (λ q. closed_len q bs) (walk place b)

-- whether a quote comes behind blanks
unfoldable pub begins_string : List ℕ → Bool
begins_string [] = false
begins_string (b ∷ bs) = if is_blank b then begins_string bs else b == 34
