-- stage 5 by the table of digests decides as it does by the entries
pub mod FilesByTable
-- where a group's file stands is what stands before the files, and then these
pub mod Front
-- the first file of a group
pub mod FirstFile
-- stages 5 and 6 by the table decide as they do by the entries
pub mod StagesByTable
