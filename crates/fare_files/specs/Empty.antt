-- The file of an empty database of SQLite (https://www.sqlite.org/fileformat.html, 1.3 and 1.6).
use Rattle.std.specs.Prelude.{ℕ, List, [], ◌∷◌, ◌++◌, codes, replicate}

-- the database's header. In turn: its name; pages of 1,024 bytes; a rollback journal, no bytes kept at a page's end, the fractions of a payload; the first change; one page; no free page; the first cookie of the schema; what a new database has not set; the change for which this is valid; SQLite 3.40.1
abbrev pub database_header : List ℕ
database_header = (codes "SQLite format 3" ++ 0 ∷ [])
    ++ (4 ∷ 0 ∷ [])
    ++ (1 ∷ 1 ∷ 0 ∷ 64 ∷ 32 ∷ 32 ∷ [])
    ++ (0 ∷ 0 ∷ 0 ∷ 1 ∷ [])
    ++ (0 ∷ 0 ∷ 0 ∷ 1 ∷ [])
    ++ replicate 8 0
    ++ (0 ∷ 0 ∷ 0 ∷ 1 ∷ [])
    ++ replicate 48 0
    ++ (0 ∷ 0 ∷ 0 ∷ 1 ∷ [])
    ++ (0 ∷ 46 ∷ 99 ∷ 1 ∷ [])

-- the header of its one page: a leaf of a table; no free block; no cell; all to byte 1,024 is free; no lost bytes
abbrev pub page_header : List ℕ
page_header = (13 ∷ []) ++ (0 ∷ 0 ∷ []) ++ (0 ∷ 0 ∷ []) ++ (4 ∷ 0 ∷ []) ++ (0 ∷ [])

-- the whole file
abbrev pub empty_database : List ℕ
empty_database = database_header ++ page_header ++ replicate 916 0
