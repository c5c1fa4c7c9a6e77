-- Which texts are graphs of the DOT language, and which nodes and edges do they have? (DOT is the language of Graphviz)
--
-- It is the part of the language that the text of a graph uses: a directed graph with a name, and in it settings of it, nodes and edges with their
-- attributes, and subgraphs, in which are settings and nodes. Each statement ends with `;`, and commas stand between attributes.
use Rattle.std.specs.Prelude.{ℕ, ◌+◌, nat_le, bytes_eq, codes, Bool, true, false, not, ◌&&◌, List, [], ◌∷◌, ◌++◌, map, Option, None, Some, if◌then◌else◌}
use Rattle.std.specs.List.{list_any}
use Rattle.graph_laws.specs.dot_laws.Tokens.{Token, Word, Quoted, OpenBrace, CloseBrace, OpenBracket, CloseBracket, Equals, Comma, Semicolon, Arrow, Between, is_digit, tokens_from}

-- ---- identifiers

abbrev pub keywords : List (List ℕ)
keywords = codes "node" ∷ codes "edge" ∷ codes "graph" ∷ codes "digraph" ∷ codes "subgraph" ∷ codes "strict" ∷ []

abbrev pub lower : ℕ → ℕ
lower c = if nat_le 65 c && nat_le c 90 then c + 32 else c

-- one of the keywords, in letters of any case
abbrev pub is_keyword : List ℕ → Bool
is_keyword word = list_any (λ keyword. bytes_eq keyword (map lower word)) keywords

-- it begins with a letter or `_`
abbrev pub begins_plain : List ℕ → Bool
begins_plain [] = false
begins_plain (c ∷ word) = not (is_digit c)

-- the identifier that a token is: a word that is no keyword, or a text between quotes as it stands there
abbrev pub id_of : Token → Option (List ℕ)
id_of (Word word) = if begins_plain word && not (is_keyword word) then Some word else None
id_of (Quoted text) = Some text
id_of token = None

-- ---- statements

abbrev pub Attribute : Type 0
Attribute = List ℕ × List ℕ

pub data Statement : Type 0 where
  Begins : List ℕ → Statement
  Opens : List ℕ → Statement
  Closes : Statement
  Sets : Attribute → Statement
  Node : List ℕ → List Attribute → Statement
  Edge : List ℕ → List ℕ → List Attribute → Statement
  Unknown : Statement

-- an identifier, `=` and an identifier
abbrev pub attribute_of : Option (List ℕ) → Option (List ℕ) → Option Attribute
attribute_of (Some key) (Some value) = Some (key, value)
attribute_of (Some key) None = None
attribute_of None value = None

abbrev pub and_attributes : Option Attribute → Option (List Attribute) → Option (List Attribute)
and_attributes (Some attribute) (Some attributes) = Some (attribute ∷ attributes)
and_attributes (Some attribute) None = None
and_attributes None attributes = None

-- attributes with commas between them, up to the end of their statement
abbrev pub attributes_in : List Token → Option (List Attribute)
attributes_in (key ∷ Equals ∷ value ∷ CloseBracket ∷ Semicolon ∷ []) = and_attributes (attribute_of (id_of key) (id_of value)) (Some [])
attributes_in (key ∷ Equals ∷ value ∷ Comma ∷ tokens) = and_attributes (attribute_of (id_of key) (id_of value)) (attributes_in tokens)
attributes_in tokens = None

abbrev pub setting_of : Option Attribute → Statement
setting_of (Some attribute) = Sets attribute
setting_of None = Unknown

abbrev pub node_of : Option (List ℕ) → Option (List Attribute) → Statement
node_of (Some id) (Some attributes) = Node id attributes
node_of (Some id) None = Unknown
node_of None attributes = Unknown

abbrev pub edge_of : Option (List ℕ) → Option (List ℕ) → Option (List Attribute) → Statement
edge_of (Some from) (Some to) (Some attributes) = Edge from to attributes
edge_of (Some from) (Some to) None = Unknown
edge_of (Some from) None attributes = Unknown
edge_of None to attributes = Unknown

-- `digraph` or `subgraph`, and a name
abbrev pub opening_of : Token → Option (List ℕ) → Statement
opening_of (Word word) (Some name) =
    if bytes_eq word (codes "digraph") then Begins name else (if bytes_eq word (codes "subgraph") then Opens name else Unknown)
opening_of (Word word) None = Unknown
opening_of token name = Unknown

-- a statement of one token
abbrev pub closing_of : Token → Statement
closing_of CloseBrace = Closes
closing_of token = Unknown

-- what the tokens of a statement say
abbrev pub statement_of : List Token → Statement
statement_of [] = Unknown
statement_of (token ∷ []) = closing_of token
statement_of (key ∷ Equals ∷ value ∷ Semicolon ∷ []) = setting_of (attribute_of (id_of key) (id_of value))
statement_of (from ∷ Arrow ∷ to ∷ Semicolon ∷ []) = edge_of (id_of from) (id_of to) (Some [])
statement_of (from ∷ Arrow ∷ to ∷ OpenBracket ∷ tokens) = edge_of (id_of from) (id_of to) (attributes_in tokens)
statement_of (id ∷ OpenBracket ∷ tokens) = node_of (id_of id) (attributes_in tokens)
statement_of (word ∷ name ∷ OpenBrace ∷ []) = opening_of word (id_of name)
statement_of tokens = Unknown

-- tokens after which no statement ends
abbrev pub unfinished : List Token → List Statement
unfinished [] = []
unfinished (token ∷ tokens) = Unknown ∷ []

-- the statements of tokens, each up to its `;`, `{` or `}`, where those come first that are before them
abbrev pub statements_from : List Token → List Token → List Statement
statements_from before [] = unfinished before
statements_from before (Semicolon ∷ tokens) = statement_of (before ++ Semicolon ∷ []) ∷ statements_from [] tokens
statements_from before (OpenBrace ∷ tokens) = statement_of (before ++ OpenBrace ∷ []) ∷ statements_from [] tokens
statements_from before (CloseBrace ∷ tokens) = statement_of (before ++ CloseBrace ∷ []) ∷ statements_from [] tokens
statements_from before (token ∷ tokens) = statements_from (before ++ token ∷ []) tokens

abbrev pub statements_of : List ℕ → List Statement
statements_of text = statements_from [] (tokens_from Between text)

-- ---- graphs

-- what follows the beginning of a graph, in a subgraph or not
abbrev pub is_rest : Bool → List Statement → Bool
is_rest false (Closes ∷ []) = true
is_rest true (Closes ∷ statements) = is_rest false statements
is_rest false (Opens name ∷ statements) = is_rest true statements
is_rest inside (Sets attribute ∷ statements) = is_rest inside statements
is_rest inside (Node id attributes ∷ statements) = is_rest inside statements
is_rest false (Edge from to attributes ∷ statements) = is_rest false statements
is_rest inside statements = false

abbrev pub is_graph : List Statement → Bool
is_graph (Begins name ∷ statements) = is_rest false statements
is_graph statements = false

-- a node, in a subgraph or in none
pub record DotNode : Type 0 where
  pub subgraph : Option (List ℕ)
  pub id : List ℕ
  pub attributes : List Attribute

pub record DotEdge : Type 0 where
  pub from : List ℕ
  pub to : List ℕ
  pub attributes : List Attribute

-- a setting of a subgraph, or of the graph
abbrev pub Setting : Type 0
Setting = Option (List ℕ) × Attribute

-- the subgraph in which the next statement stands
abbrev pub place_after : Option (List ℕ) → Statement → Option (List ℕ)
place_after place (Opens name) = Some name
place_after place Closes = None
place_after place statement = place

abbrev pub nodes_by : Option (List ℕ) → Statement → List DotNode
nodes_by place (Node id attributes) = record { subgraph = place; id = id; attributes = attributes } ∷ []
nodes_by place statement = []

abbrev pub edges_by : Option (List ℕ) → Statement → List DotEdge
edges_by place (Edge from to attributes) = record { from = from; to = to; attributes = attributes } ∷ []
edges_by place statement = []

abbrev pub settings_by : Option (List ℕ) → Statement → List Setting
settings_by place (Sets attribute) = (place, attribute) ∷ []
settings_by place statement = []

-- what statements say, each where it stands
abbrev pub said_in : {X : Type 0} → (Option (List ℕ) → Statement → List X) → Option (List ℕ) → List Statement → List X
said_in by place [] = []
said_in by place (statement ∷ statements) = by place statement ++ said_in by (place_after place statement) statements

-- ---- texts

-- the text is a graph of the language
abbrev pub is_dot : List ℕ → Bool
is_dot text = is_graph (statements_of text)

-- its nodes, in their order
abbrev pub dot_nodes : List ℕ → List DotNode
dot_nodes text = said_in nodes_by None (statements_of text)

abbrev pub dot_edges : List ℕ → List DotEdge
dot_edges text = said_in edges_by None (statements_of text)

abbrev pub dot_settings : List ℕ → List Setting
dot_settings text = said_in settings_by None (statements_of text)
