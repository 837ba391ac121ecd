-- A table of worked examples: a list of rows, and what each row says. Assumes nothing.
use Rattle.std.specs.Prelude.{List, [], ◌∷◌}

infixr 20 ◌and◌
-- what the rows say holds, of each
pub data EachRow {Row : Type 0} (Says : Row → Type 0) : List Row → Type 0 where
  no_more : EachRow Says []
  ◌and◌ : {row : Row} {rows : List Row} → Says row → EachRow Says rows → EachRow Says (row ∷ rows)
