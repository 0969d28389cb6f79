mod PairTables
