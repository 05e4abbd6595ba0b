-- What the texts mean.
use Rattle.std.proofs.Common.{◌≡◌, ℕ, List, codes, Ok, refl}
use Rattle.sqlite_tied.specs.Compute.{everything}
use Rattle.sqlite_resolve.specs.Compile.{table_defined_by}
use Rattle.sql_schema.specs.Tables.{meta, records2, currents2, vectors}

abbrev pub meta_text : List ℕ
meta_text = codes
    "CREATE TABLE meta (one INTEGER PRIMARY KEY CHECK (one = 1), format INTEGER NOT NULL, archive BLOB NOT NULL, replica INTEGER NOT NULL) STRICT"

abbrev pub records_text : List ℕ
records_text = codes
    "CREATE TABLE records2 (origin INTEGER NOT NULL, number INTEGER NOT NULL, tick INTEGER NOT NULL, node BLOB NOT NULL, time INTEGER NOT NULL, pico INTEGER NOT NULL, asked INTEGER NOT NULL, who BLOB NOT NULL, value BLOB NOT NULL, PRIMARY KEY (origin, number), UNIQUE (node, time, pico, tick, origin)) STRICT"

abbrev pub currents_text : List ℕ
currents_text = codes
    "CREATE TABLE currents2 (node BLOB NOT NULL, time INTEGER NOT NULL, pico INTEGER NOT NULL, tick INTEGER NOT NULL, origin INTEGER NOT NULL, live INTEGER NOT NULL, extra INTEGER NOT NULL, value BLOB NOT NULL, PRIMARY KEY (node, time, pico)) STRICT"

abbrev pub vectors_text : List ℕ
vectors_text = codes
    "CREATE TABLE vectors (origin INTEGER PRIMARY KEY, number INTEGER NOT NULL, tick INTEGER NOT NULL) STRICT"

pub meta_is : table_defined_by meta_text ≡ Ok meta
unfolding everything
meta_is = refl

pub records_is : table_defined_by records_text ≡ Ok records2
unfolding everything
records_is = refl

pub currents_is : table_defined_by currents_text ≡ Ok currents2
unfolding everything
currents_is = refl

pub vectors_is : table_defined_by vectors_text ≡ Ok vectors
unfolding everything
vectors_is = refl

abbrev pub index_text : List ℕ
index_text = codes "CREATE INDEX currents2_live ON currents2 (node, live, time, pico)"

abbrev pub insert_text : List ℕ
insert_text = codes "INSERT INTO records2 VALUES (?1, ?2, ?3, ?4, ?5, ?6, ?7, ?8, ?9)"

abbrev pub fill_text : List ℕ
fill_text = codes "INSERT INTO meta VALUES (1, 2, ?1, ?2)"

abbrev pub at_text : List ℕ
at_text = codes "SELECT origin, number, tick, node, time, pico, asked, who, value FROM records2 WHERE node = ?1 AND time = ?2 AND pico = ?3 ORDER BY tick, origin"

abbrev pub all_text : List ℕ
all_text = codes "SELECT origin, number, tick, node, time, pico, asked, who, value FROM records2 ORDER BY origin, number"

abbrev pub whose_text : List ℕ
whose_text = codes "SELECT one, format, archive, replica FROM meta"

abbrev pub named_text : List ℕ
named_text = codes
    "SELECT origin, number, tick, node, time, pico, asked, who, value FROM records2 WHERE origin = ?1 AND number = ?2"

abbrev pub last_text : List ℕ
last_text = codes "SELECT origin, number, tick FROM vectors WHERE origin = ?1"

abbrev pub since_text : List ℕ
since_text = codes
    "SELECT origin, number, tick, node, time, pico, asked, who, value FROM records2 WHERE origin = ?1 AND number > ?2 ORDER BY origin, number LIMIT ?3"

abbrev pub after_text : List ℕ
after_text = codes
    "SELECT origin, number, tick, node, time, pico, asked, who, value FROM records2 WHERE node = ?1 AND time >= ?2 AND CASE WHEN time > ?2 THEN 1 ELSE pico > ?3 END ORDER BY time, pico, tick, origin LIMIT ?4"

abbrev pub before_text : List ℕ
before_text = codes
    "SELECT origin, number, tick, node, time, pico, asked, who, value FROM records2 WHERE node = ?1 AND time <= ?2 AND CASE WHEN time < ?2 THEN 1 ELSE pico < ?3 END ORDER BY time DESC, pico DESC, tick DESC, origin DESC LIMIT ?4"

abbrev pub raise_current_text : List ℕ
raise_current_text =
    codes "UPDATE currents2 SET tick = ?4, origin = ?5, live = ?6 <> 4, extra = 1, value = ?7 WHERE node = ?1 AND time = ?2 AND pico = ?3 AND tick <= ?4 AND (tick < ?4 OR origin < ?5)"

abbrev pub mark_current_text : List ℕ
mark_current_text =
    codes "UPDATE currents2 SET extra = 1 WHERE node = ?1 AND time = ?2 AND pico = ?3 AND tick >= ?4 AND (tick > ?4 OR origin > ?5)"

abbrev pub first_current_text : List ℕ
first_current_text = codes "INSERT INTO currents2 VALUES (?1, ?2, ?3, ?4, ?5, ?6 <> 4, 0, ?7)"

abbrev pub some_at_text : List ℕ
some_at_text = codes
    "SELECT origin FROM records2 WHERE node = ?1 AND time = ?2 AND pico = ?3 LIMIT 1"

abbrev pub fill_currents_text : List ℕ
fill_currents_text =
    codes "INSERT INTO currents2 SELECT r.node, r.time, r.pico, r.tick, r.origin, r.asked <> 4, EXISTS (SELECT 1 FROM records2 AS s WHERE s.node = r.node AND s.time = r.time AND s.pico = r.pico AND (s.tick <> r.tick OR s.origin <> r.origin)), r.value FROM records2 AS r WHERE NOT EXISTS (SELECT 1 FROM records2 AS s WHERE s.node = r.node AND s.time = r.time AND s.pico = r.pico AND s.tick >= r.tick AND (s.tick > r.tick OR s.origin > r.origin))"

abbrev pub add_vector_text : List ℕ
add_vector_text = codes "INSERT INTO vectors VALUES (?1, ?2, ?3)"

abbrev pub set_vector_text : List ℕ
set_vector_text = codes "UPDATE vectors SET origin = ?1, number = ?2, tick = ?3 WHERE origin = ?1"

abbrev pub fill_vectors_text : List ℕ
fill_vectors_text =
    codes "INSERT INTO vectors SELECT r.origin, r.number, r.tick FROM records2 AS r WHERE NOT EXISTS (SELECT 1 FROM records2 AS s WHERE s.origin = r.origin AND s.number > r.number)"

abbrev pub currents_stray_text : List ℕ
currents_stray_text =
    codes "SELECT c.origin FROM currents2 AS c WHERE NOT EXISTS (SELECT 1 FROM records2 AS r WHERE r.node = c.node AND r.time = c.time AND r.pico = c.pico AND r.tick = c.tick AND r.origin = c.origin) LIMIT 1"

abbrev pub currents_alone_text : List ℕ
currents_alone_text =
    codes "SELECT c.origin FROM currents2 AS c WHERE c.extra <> 0 AND NOT EXISTS (SELECT 1 FROM records2 AS r WHERE r.node = c.node AND r.time = c.time AND r.pico = c.pico AND (r.tick <> c.tick OR r.origin <> c.origin)) LIMIT 1"

abbrev pub currents_hide_text : List ℕ
currents_hide_text =
    codes "SELECT r.origin FROM records2 AS r WHERE NOT EXISTS (SELECT 1 FROM currents2 AS c WHERE c.node = r.node AND c.time = r.time AND c.pico = r.pico AND (c.extra = 1 AND (c.tick > r.tick OR c.tick = r.tick AND c.origin > r.origin) OR c.tick = r.tick AND c.origin = r.origin AND c.live = (r.asked <> 4) AND c.value = r.value)) LIMIT 1"

abbrev pub currents_held_text : List ℕ
currents_held_text = codes "SELECT rowid FROM currents2 ORDER BY rowid"

abbrev pub vectors_stray_text : List ℕ
vectors_stray_text =
    codes "SELECT v.origin FROM vectors AS v WHERE NOT EXISTS (SELECT 1 FROM records2 AS r WHERE r.origin = v.origin AND r.number = v.number AND r.tick = v.tick) LIMIT 1"

abbrev pub vectors_held_text : List ℕ
vectors_held_text = codes "SELECT origin FROM vectors ORDER BY origin"

abbrev pub lives_after_text : List ℕ
lives_after_text =
    codes "SELECT time, pico, extra, value FROM currents2 WHERE node = ?1 AND time >= ?2 AND CASE WHEN time > ?2 THEN 1 ELSE pico > ?3 END AND time <= ?4 AND CASE WHEN time < ?4 THEN 1 ELSE pico <= ?5 END AND live = 1 ORDER BY time, pico LIMIT ?6"

abbrev pub lives_before_text : List ℕ
lives_before_text =
    codes "SELECT time, pico, extra, value FROM currents2 WHERE node = ?1 AND time <= ?2 AND CASE WHEN time < ?2 THEN 1 ELSE pico < ?3 END AND time >= ?4 AND CASE WHEN time > ?4 THEN 1 ELSE pico >= ?5 END AND live = 1 ORDER BY time DESC, pico DESC LIMIT ?6"

abbrev pub records1_text : List ℕ
records1_text = codes
    "SELECT origin, number, tick, node, time, 0, asked, who, value FROM records ORDER BY origin, number"

abbrev pub currents1_text : List ℕ
currents1_text = codes
    "SELECT node, time, 0, tick, origin, live, extra, value FROM currents ORDER BY node, time"

abbrev pub all_currents_text : List ℕ
all_currents_text =
    codes "SELECT node, time, pico, tick, origin, live, extra, value FROM currents2 ORDER BY node, time, pico"

abbrev pub all_vectors_text : List ℕ
all_vectors_text = codes "SELECT origin, number, tick FROM vectors ORDER BY origin"

abbrev pub drop_vectors_text : List ℕ
drop_vectors_text = codes "DROP TABLE vectors"

abbrev pub drop_currents_text : List ℕ
drop_currents_text = codes "DROP TABLE currents"

abbrev pub drop_records_text : List ℕ
drop_records_text = codes "DROP TABLE records"

abbrev pub drop_meta_text : List ℕ
drop_meta_text = codes "DROP TABLE meta"
